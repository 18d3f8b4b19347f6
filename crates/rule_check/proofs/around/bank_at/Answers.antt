-- The element is read, or the new one.
use Rattle.std.proofs.Common.{arith}
use Rattle.rule_check.proofs.Defaults.{read_or}
use Rattle.rule_check.proofs.around.bank_at.Goals as goal

pub returns : goal.returns
returns c = read_or c.unwrap_or.result _ c.get.result _ _ _ c.unwrap_or.ensures c.number.ensures (c.get.ensures.lookup.4 (omega arith))

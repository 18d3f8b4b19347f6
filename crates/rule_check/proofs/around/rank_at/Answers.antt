-- The element is read, or the new one.
use Rattle.std.proofs.Common.{refl, arith}
use Rattle.rule_check.proofs.Defaults.{read_or}
use Rattle.rule_check.proofs.around.rank_at.Goals as goal

pub returns : goal.returns
returns c = read_or c.unwrap_or.result _ c.get.result c.args.ranks.now c.args.rank c.args.rank c.unwrap_or.ensures refl (c.get.ensures.lookup.4 (omega arith))

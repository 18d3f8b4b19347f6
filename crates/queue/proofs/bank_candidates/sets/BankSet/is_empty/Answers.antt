use Rattle.std.proofs.Common.{arith}
use Rattle.queue.proofs.Bits.{some_bit}
use Rattle.queue.proofs.bank_candidates.sets.BankSet.is_empty.Goals as goal

pub returns-clause-some : goal.returns-clause-some
returns-clause-some c is = some_bit c.args.self.bits (omega arith) is

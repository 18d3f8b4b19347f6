use Rattle.std.proofs.Common.{arith}
use Rattle.queue.proofs.Bits.{minus_bit}
use Rattle.queue.proofs.bank_candidates.sets.BankSet.minus.Goals as goal

pub returns : goal.returns
returns c k = minus_bit c.args.self.bits c.args.others.bits k (omega arith) (omega arith)

use Rattle.queue.proofs.Bits.{union_bit}
use Rattle.queue.proofs.bank_candidates.sets.BankSet.union.Goals as goal

pub returns : goal.returns
returns c k = union_bit c.args.self.bits c.args.others.bits k

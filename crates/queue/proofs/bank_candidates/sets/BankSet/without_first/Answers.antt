use Rattle.std.proofs.Common.{arith}
use Rattle.queue.proofs.Bits.{lowest_out}
use Rattle.queue.proofs.bank_candidates.sets.BankSet.without_first.Goals as goal

pub returns-clause-same : goal.returns-clause-same
returns-clause-same c bank lowest = (lowest_out c.args.self.bits bank (omega arith) lowest.there lowest.none_below).0

pub returns-clause-others : goal.returns-clause-others
returns-clause-others c bank k lowest = (lowest_out c.args.self.bits bank (omega arith) lowest.there lowest.none_below).1 k

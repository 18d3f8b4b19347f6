use Rattle.std.proofs.Common.{w64, eqb, ap, arith}
use Rattle.std.proofs.lemmas.Nat.Bits.{bit_at_clear_same}
use Rattle.queue.proofs.Bits.{without_other}
use Rattle.queue.proofs.bank_candidates.sets.BankSet.without.Goals as goal

pub returns-clause-same : goal.returns-clause-same
returns-clause-same c = ap (λ n. eqb n 1) (bit_at_clear_same w64 c.args.self.bits c.args.bank c.requires)

pub returns-clause-others : goal.returns-clause-others
returns-clause-others c k apart = ap (λ n. eqb n 1) (without_other c.args.self.bits c.args.bank k (omega arith) c.requires apart)

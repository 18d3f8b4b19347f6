use Rattle.std.proofs.Common.{w64, eqb, ap}
use Rattle.std.proofs.lemmas.Nat.Bits.{bit_at_set_same, bit_at_set_other}
use Rattle.queue.proofs.bank_candidates.sets.BankSet.with.Goals as goal

pub returns-clause-same : goal.returns-clause-same
returns-clause-same c = ap (λ n. eqb n 1) (bit_at_set_same w64 c.args.self.bits c.args.bank c.requires)

pub returns-clause-others : goal.returns-clause-others
returns-clause-others c k apart = ap (λ n. eqb n 1) (bit_at_set_other w64 c.args.self.bits c.args.bank c.requires k apart)

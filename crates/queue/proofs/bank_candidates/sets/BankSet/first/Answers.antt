-- The lowest bit that is 1.
use Rattle.std.proofs.Common.{w64, eqb, ap, eq-eqb, arith}
use Rattle.std.proofs.lemmas.Nat.Bits.{bit_at-trailing_zeros}
use Rattle.std.specs.Int.{bit_at, trailing_zeros}
use Rattle.queue.proofs.bank_candidates.sets.BankSet.first.Goals as goal

pub returns-else-self-eq0-clause-lowest : goal.returns-else-self-eq0-clause-lowest
returns-else-self-eq0-clause-lowest c =
    let bits = c.args.self.bits in
    let first = bit_at-trailing_zeros w64 bits (omega (arith, c.if-self-eq0.false)) (omega arith) in
    record {
      there = eq-eqb (bit_at bits (trailing_zeros w64 bits)) 1 first.1;
      none_below = λ k below. ap (λ n. eqb n 1) (first.2 k below);
    }

-- A power of two by the place of its highest bit.
use Rattle.std.proofs.Common.{◌≡◌, ℕ, ◌+◌, ◌-◌, ◌*◌, ◌^◌, ◌<◌, ◌≤◌, refl, arith, ap}
use Rattle.std.specs.Prelude.{IsTrue}
use Rattle.std.specs.Int.{is_power_of_two}
use Rattle.std.specs.Int.Count.{ones}
use Rattle.std.proofs.lemmas.Bool.{eqb-true}
use Rattle.std.proofs.lemmas.Nat.{ones_cat, zero_from_ones}

ones-one : ones 1 ≡ 1
unfolding ones
ones-one = refl

-- a power of two by the place of its highest bit
pub power_from_log : (n r : ℕ) → IsTrue (is_power_of_two n) → 2 ^ r ≤ n → n < 2 * 2 ^ r → n ≡ 2 ^ r
power_from_log n r power low high =
    let q : ℕ = n - 2 ^ r in
    let e : n ≡ 1 * 2 ^ r + q = omega arith in
    let cat : ones (1 * 2 ^ r + q) ≡ ones 1 + ones q = ones_cat r 1 q (omega arith) in
    let all : ones n ≡ 1 = eqb-true (ones n) 1 power in
    let none : ones q ≡ 0 = omega (arith, ap ones e, cat, all, ones-one) in
    let zero_left : q ≡ 0 = zero_from_ones q none in
    omega arith

-- What is left over by a power of two is what stands under a mask.
use Rattle.std.proofs.Common.{◌≡◌, ℕ, suc, ◌-◌, ◌*◌, ◌%◌, ◌^◌, ◌<◌, arith, ◌∙◌, sym, ap}
use Rattle.std.specs.Prelude.{IsTrue, bit_and}
use Rattle.std.specs.Int.{is_power_of_two}
use Rattle.std.proofs.Math.Nat.{pow-succ'}
use Rattle.std.proofs.lemmas.Nat.{and_mask, leading_top}
use Rattle.sim_base.proofs.Powers.{power_from_log}

pub masked : (n x : ℕ) → 0 < n → n < 2 ^ 32 → IsTrue (is_power_of_two n) → bit_and x (n - 1) ≡ x % n
masked n x positive small power =
    let top = leading_top 32 n positive small in
    let twice : 2 ^ suc top.0 ≡ 2 * 2 ^ top.0 = pow-succ' 2 top.0 in
    let is_power : n ≡ 2 ^ top.0 = power_from_log n top.0 power top.2 (omega (arith, top.3, twice)) in
    ap (λ m. bit_and x (m - 1)) is_power ∙ and_mask x top.0 ∙ ap (λ m. x % m) (sym is_power)

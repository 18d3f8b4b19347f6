-- Powers of ten.
use Rattle.std.proofs.Common.{ℕ, ◌^◌, ◌<◌, ◌≤◌, arith, lit<}
use Rattle.std.proofs.Math.Nat.{one-le-pow, pow-le-pow_right}

-- they are not 0
pub power_some : (power : ℕ) → 0 < 10 ^ power
power_some power = one-le-pow power 10 (lit< tt)

-- a small one has 128 bits
pub power_fits : (power : ℕ) → power ≤ 21 → 10 ^ power < 2 ^ 128
power_fits power within =
    let least : 10 ^ power ≤ 1000000000000000000000 = pow-le-pow_right {n = 10} (lit< tt) {i = power} {j = 21} within in
    omega arith

-- The scales of axes.
--     distance_at place      a distance that ticks may have, by its place among all of them in ascending order
--     IsTickStep span most step      the least of them with which a span has at most so many ticks
--     IsAxisEnd value most end      where an axis for a value ends
use Rattle.std.specs.Prelude.{◌≡◌, ℕ, zero, suc, ◌-◌, ◌*◌, ◌/◌, ◌%◌, ◌^◌, ◌<◌, ◌≤◌, min}
use Rattle.std.specs.Int.{div_ceil}

-- 1, 2 and 5
abbrev pub digit_at : ℕ → ℕ
digit_at zero = 1
digit_at (suc zero) = 2
digit_at (suc (suc place)) = 5

-- 1, 2 and 5 times a power of ten, in ascending order: 1, 2, 5, 10, 20, 50, 100 and so on
unfoldable pub distance_at : ℕ → ℕ
distance_at place = digit_at (place % 3) * 10 ^ (place / 3)

-- with this distance between its ticks a span has more than so many, not counting the first
abbrev pub HasMoreTicks : ℕ → ℕ → ℕ → Type 0
HasMoreTicks span most place = most < span / distance_at place

-- the least of the distances with which a span has at most so many ticks, not counting the first
pub record IsTickStep (span most step : ℕ) : Type 0 where
  pub place : ℕ
  pub step_is : step ≡ distance_at place
  pub few : span / step ≤ most
  pub least : (sooner : ℕ) → sooner < place → HasMoreTicks span most sooner

-- where an axis for a value ends: the least multiple of the distance between its ticks that is not less than the value,
-- or 2^64 - 1 where that is greater
pub record IsAxisEnd (value most end : ℕ) : Type 0 where
  pub step : ℕ
  pub is_step : IsTickStep value most step
  pub end_is : end ≡ min (div_ceil value step * step) (2 ^ 64 - 1)

-- Numbers of 64 bits.
--     fitting n      the number, where it is at most 2^64 - 1
use Rattle.std.specs.Prelude.{ℕ, ◌^◌, nat_lt, Option, Some, None, if◌then◌else◌}

-- the number, where it is at most 2^64 - 1
unfoldable pub fitting : ℕ → Option ℕ
fitting n = if nat_lt n (2 ^ 64) then Some n else None

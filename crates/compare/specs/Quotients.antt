-- Quotients, in billionths.
--     quotient dividend divisor      a quotient, rounded down, if there is anything to divide by
--     share part whole      what percentage of the whole a part is
use Rattle.std.specs.Prelude.{ℕ, ◌*◌, ◌/◌, ◌^◌, ◌==◌, min, Option, Some, None, if◌then◌else◌}

-- a quotient in billionths, rounded down; a dividend above 2^85 counts as 2^85
abbrev pub quotient : ℕ → ℕ → Option ℕ
quotient dividend divisor = if divisor == 0 then None else Some (1000000000 * min dividend (2 ^ 85) / divisor)

-- what percentage of the whole a part is
abbrev pub share : ℕ → ℕ → Option ℕ
share part whole = quotient (100 * part) whole

-- Counts of two stretches of cycles.
--     sum_of_counts a b      the sum of two counts, of which one or both may not be there
use Rattle.std.specs.Prelude.{ℕ, ◌+◌, Option, Some, None}

-- the sum of two counts; where one of them is not there, the other
abbrev pub sum_of_counts : Option ℕ → Option ℕ → Option ℕ
sum_of_counts (Some a) (Some b) = Some (a + b)
sum_of_counts (Some a) None = Some a
sum_of_counts None other = other

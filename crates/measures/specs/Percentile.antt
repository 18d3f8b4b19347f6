-- Percentiles by the nearest rank.
--     at_most value values      how many of the values are at most this one
--     at_rank values rank      the value of a rank, counted from 1
--     IsLeast values value      the least of the values
--     IsSummary values summary      the least, the median and the greatest of the values
--     IsPercentile values percent value      the least of the values with at least this share of them at or below it
use Rattle.std.specs.Prelude.{ℕ, zero, suc, ◌*◌, ◌≤◌, nat_le, List, length, count_by, Option, None, slice_get, ◌≡◌, [], MatchOption}
use Rattle.std.specs.List.{Contains}
use Rattle.measures.specs.declared.percentiles.Summary.{Summary}

-- how many of the values are at most this one
abbrev pub at_most : ℕ → List ℕ → ℕ
at_most value values = count_by (λ x. nat_le x value) values

-- the value of a rank, counted from 1, among values in ascending order
abbrev pub at_rank : List ℕ → ℕ → Option ℕ
at_rank values zero = None
at_rank values (suc place) = slice_get values place

-- The percentile by the nearest rank: one of the values, such that at least this share of them, in percent, is at or
-- below it; and the least of the values of which that is true.
pub record IsPercentile (values : List ℕ) (percent value : ℕ) : Type 0 where
  pub is_one : Contains values value
  pub enough : percent * length values ≤ 100 * at_most value values
  pub least : (other : ℕ) → Contains values other → percent * length values ≤ 100 * at_most other values → value ≤ other

-- one of the values, and none is below it
pub record IsLeast (values : List ℕ) (value : ℕ) : Type 0 where
  pub is_one : Contains values value
  pub least : (other : ℕ) → Contains values other → value ≤ other

-- The least, the median and the greatest of some values, each none of no values. The median is the percentile of 50, so
-- that it is the lower of the two in the middle of an even count.
pub record IsSummary (values : List ℕ) (summary : Summary) : Type 0 where
  pub least_is : MatchOption summary.least (values ≡ []) (IsLeast values)
  pub median_is : MatchOption summary.median (values ≡ []) (IsPercentile values 50)
  pub greatest_is : MatchOption summary.greatest (values ≡ []) (IsPercentile values 100)

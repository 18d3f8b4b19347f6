-- The three rows that stand for the rows of a longer table: the least, the median and the greatest number of each column.
--     halves_at column row      a number of a row, in halves of a thousandth, if it is there
--     known_in column rows      those of a column that are there
--     form_in column rows      their form
--     IsSummaryOf rows column three      the least, the median and the greatest number of a column
--     AreSummaries rows count columns      those of the first so many columns
--     IsRowAcross columns place row      a row has one of the three of each column
--     IsSummary rows summary      three rows, which have those of each column
use Rattle.std.specs.Prelude.{◌≡◌, ℕ, ◌<◌, List, [], ◌∷◌, length, map, fold, filter_map, slice_get, slice_index_or, Option, Some, None, option_and_then}
use Rattle.measures.specs.Percentile.{IsSummary as IsSummaryOfValues}
use Rattle.measures.specs.declared.number.Number.{Number}
use Rattle.measures.specs.declared.number.NumberForm.{NumberForm}
use Rattle.measures.specs.declared.number.NumberForm.TheVariants as form
use Rattle.measures.specs.declared.percentiles.Summary.{Summary}
use Rattle.show.specs.Rows.{absent}

-- a number of a row, in halves of a thousandth, if it is there
abbrev pub halves_at : ℕ → List Number → Option ℕ
halves_at column row = option_and_then (λ number. number.halves) (slice_get row column)

-- those of a column that are there
abbrev pub known_in : ℕ → List (List Number) → List ℕ
known_in column rows = filter_map (halves_at column) rows

-- the form of a number that is there; else the one before
abbrev pub form_of : NumberForm → Option ℕ → NumberForm → NumberForm
form_of before (Some halves) own = own
form_of before None own = before

abbrev pub form_at : NumberForm → Option Number → NumberForm
form_at before (Some number) = form_of before number.halves number.form
form_at before None = before

-- the form of the numbers of a column that are there, which is that of the last
abbrev pub form_in : ℕ → List (List Number) → NumberForm
form_in column rows = fold (λ before row. form_at before (slice_get row column)) form.Count rows

-- the least, the median and the greatest of the numbers of a column that are there
pub record IsSummaryOf (rows : List (List Number)) (column : ℕ) (three : List Number) : Type 0 where
  pub found : Summary
  pub found_is : IsSummaryOfValues (known_in column rows) found
  pub three_are : three ≡ map (λ halves. record { halves = halves; form = form_in column rows })
      (found.least ∷ found.median ∷ found.greatest ∷ [])

-- the least, the median and the greatest numbers of each of the first so many columns
pub record AreSummaries (rows : List (List Number)) (count : ℕ) (columns : List (List Number)) : Type 0 where
  pub count_is : length columns ≡ count
  pub each : (column : ℕ) → column < count → IsSummaryOf rows column (slice_index_or columns column [])

-- a row has one of the three numbers of each column
abbrev pub IsRowAcross : List (List Number) → ℕ → List Number → Type 0
IsRowAcross columns place row =
    (column : ℕ) → column < 13
    → slice_index_or row column absent ≡ slice_index_or (slice_index_or columns column []) place absent

-- three rows of thirteen numbers: in each column the least, the median and the greatest
pub record IsSummary (rows summary : List (List Number)) : Type 0 where
  pub count : length summary ≡ 3
  pub columns : (column : ℕ) → column < 13
      → IsSummaryOf rows column (map (λ row. slice_index_or row column absent) summary)

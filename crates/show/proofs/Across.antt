-- A row that has one number of each column.
use Rattle.std.proofs.Common.{◌≡◌, ◌≢◌, ℕ, ◌+◌, ◌<◌, ◌≤◌, ◌⊎◌, inl, inr, List, [], length, subst, ◌∙◌, arith}
use Rattle.std.specs.Prelude.{slice_index_or, slice_set}
use Rattle.std.proofs.lemmas.Bool.{cases_lt}
use Rattle.std.proofs.lemmas.List.{get_or-set_same, get_or-set_other, get_or_default}
use Rattle.measures.specs.declared.number.Number.{Number}
use Rattle.show.specs.Rows.{absent}

-- the number of one column more
pub across_more : (columns : List (List Number)) (place column : ℕ) (row : List Number) (d : Number) → column < length row → place < length (slice_index_or columns column [])
    → ((k : ℕ) → k < column → slice_index_or row k absent ≡ slice_index_or (slice_index_or columns k []) place absent)
    → (k : ℕ) → k < column + 1
    → slice_index_or (slice_set row column (slice_index_or (slice_index_or columns column []) place d)) k absent ≡ slice_index_or (slice_index_or columns k []) place absent
across_more columns place column row d within there sooner k below = by (cases_lt k column)
  where
    by : (k < column) ⊎ (column ≤ k)
        → slice_index_or (slice_set row column (slice_index_or (slice_index_or columns column []) place d)) k absent ≡ slice_index_or (slice_index_or columns k []) place absent
    by (inl before) =
        let other : k ≢ column = λ same. absurd (omega (arith, same, before)) in
        get_or-set_other row column k (slice_index_or (slice_index_or columns column []) place d) absent other ∙ sooner k before
    by (inr behind) =
        let same : column ≡ k = omega (arith, below, behind) in
        subst (λ n. slice_index_or (slice_set row column (slice_index_or (slice_index_or columns column []) place d)) n absent ≡ slice_index_or (slice_index_or columns n []) place absent) same
        (get_or-set_same row column (slice_index_or (slice_index_or columns column []) place d) absent within ∙ get_or_default (slice_index_or columns column []) place d absent there)

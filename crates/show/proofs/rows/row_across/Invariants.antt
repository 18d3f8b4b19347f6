-- The numbers of the columns so far.
use Rattle.std.proofs.Common.{◌≡◌, ℕ, ◌<◌, [], length}
use Rattle.std.specs.Prelude.{slice_index_or}
use Rattle.show.specs.Rows.{absent}
use Rattle.show.proofs.rows.row_across.Given as goal

abbrev pub invariant-loop-column : goal.invariant-loop-column
invariant-loop-column l = record {
  count : length l.row ≡ 13;
  numbers : (column : ℕ) → column < l.column → slice_index_or l.row column absent ≡ slice_index_or (slice_index_or l.columns column []) l.place absent;
}

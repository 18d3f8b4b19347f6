-- The columns so far.
use Rattle.show.specs.Summary.{AreSummaries}
use Rattle.show.proofs.rows.summary_columns.Given as goal

abbrev pub invariant-loop-column : goal.invariant-loop-column
invariant-loop-column l = AreSummaries l.rows l.column l.columns.items

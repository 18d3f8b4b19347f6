-- What was read and what is left are the table.
use Rattle.std.proofs.Common.{◌≡◌, ◌++◌, length}
use Rattle.request_table.proofs.table.RequestTable.to_vec.Given as goal

abbrev pub invariant-loop-row : goal.invariant-loop-row
invariant-loop-row l = l.rows.items ++ l.left ≡ l.self

abbrev pub decreases-loop-row : goal.decreases-loop-row
decreases-loop-row l = length l.left

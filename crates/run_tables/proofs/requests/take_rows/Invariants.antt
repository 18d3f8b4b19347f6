-- The header and a record for each row were taken.
use Rattle.std.proofs.Common.{length}
use Rattle.run_tables.proofs.ReadRequests.{RequestsSoFar}
use Rattle.run_tables.proofs.requests.take_rows.Given as goal

abbrev pub invariant-loop-records : goal.invariant-loop-records
invariant-loop-records l = RequestsSoFar l.fn.records.records l.rows.items l.least l.records.row l.records.records

abbrev pub decreases-loop-records : goal.decreases-loop-records
decreases-loop-records l = length l.records.records

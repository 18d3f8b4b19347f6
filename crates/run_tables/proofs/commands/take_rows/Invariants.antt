-- The header and a record for each row were taken.
use Rattle.std.proofs.Common.{length}
use Rattle.run_tables.proofs.ReadRows.{ReadSoFar}
use Rattle.run_tables.proofs.commands.take_rows.Given as goal

abbrev pub invariant-loop-limits : goal.invariant-loop-limits
invariant-loop-limits l = ReadSoFar l.fn.records.records l.limits l.rows l.earliest l.records.row l.records.records

abbrev pub decreases-loop-limits : goal.decreases-loop-limits
decreases-loop-limits l = length l.records.records

-- Unless a row was lost, what was written or waits are the rows that came. Those that are left follow them.
use Rattle.std.proofs.Common.{◌≡◌, List, ◌++◌, length}
use Rattle.request_table.specs.declared.times.RequestTimes.{RequestTimes}
use Rattle.reports.specs.Requests.{request_lines}
use Rattle.reports.specs.Tables.{AddsRows}
use Rattle.reports.proofs.requests.write_each.Given as goal

abbrev pub invariant-loop-row : goal.invariant-loop-row
invariant-loop-row g l =
    (came : List RequestTimes) × (came ++ l.rows ≡ l.fn.rows)
    × AddsRows g.W.Write.contents l.fn.writer l.fn.table l.writer l.table (request_lines came)

abbrev pub decreases-loop-row : goal.decreases-loop-row
decreases-loop-row g l = length l.rows

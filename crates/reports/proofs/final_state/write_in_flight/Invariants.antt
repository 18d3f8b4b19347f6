-- Unless a row was lost, what was written or waits are the rows so far.
use Rattle.std.proofs.Common.{take, map}
use Rattle.reports.specs.Rows.{rows_text}
use Rattle.reports.specs.Final.{flight_fields}
use Rattle.reports.specs.Tables.{AddsRows}
use Rattle.reports.proofs.final_state.write_in_flight.Given as goal

abbrev pub invariant-loop-message : goal.invariant-loop-message
invariant-loop-message g l =
    AddsRows g.W.Write.contents l.fn.writer l.fn.table l.writer l.table (rows_text (map (flight_fields l.ranks l.channels) (take l.message-index l.in_flight)))

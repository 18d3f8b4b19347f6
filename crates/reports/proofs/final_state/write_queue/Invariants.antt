-- Unless a row was lost, what was written or waits are the rows so far.
use Rattle.std.proofs.Common.{take, map}
use Rattle.reports.specs.Rows.{rows_text}
use Rattle.reports.specs.Final.{queued_fields}
use Rattle.reports.specs.Tables.{AddsRows}
use Rattle.reports.proofs.final_state.write_queue.Given as goal

abbrev pub invariant-loop-request : goal.invariant-loop-request
invariant-loop-request g l =
    AddsRows g.W.Write.contents l.fn.writer l.fn.table l.writer l.table (rows_text (map (queued_fields l.ranks l.channel) (take l.request-index l.queue)))

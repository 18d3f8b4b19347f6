-- Unless a row was lost, what was written or waits are the rows so far.
use Rattle.std.proofs.Common.{take, map}
use Rattle.reports.specs.Rows.{rows_text}
use Rattle.reports.specs.Final.{open_fields}
use Rattle.reports.specs.Tables.{AddsRows}
use Rattle.reports.proofs.final_state.write_open_rows.Given as goal

abbrev pub invariant-loop-opened : goal.invariant-loop-opened
invariant-loop-opened g l =
    AddsRows g.W.Write.contents l.fn.writer l.fn.table l.writer l.table (rows_text (map (open_fields l.ranks l.channel) (take l.opened-index l.open_rows)))

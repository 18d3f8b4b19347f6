-- Unless a row was lost, what was written or waits are the rows so far.
use Rattle.std.proofs.Common.{take}
use Rattle.reports.specs.Rows.{rows_text, numbered}
use Rattle.reports.specs.Final.{due_rows}
use Rattle.reports.specs.Tables.{AddsRows}
use Rattle.reports.proofs.final_state.write_due.Given as goal

abbrev pub invariant-loop-rank : goal.invariant-loop-rank
invariant-loop-rank g l =
    AddsRows g.W.Write.contents l.fn.writer l.fn.table l.writer l.table (rows_text (numbered (due_rows l.ranks l.channel) (take l.rank l.due)))

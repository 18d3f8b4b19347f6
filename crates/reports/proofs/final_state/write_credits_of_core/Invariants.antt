-- Unless a row was lost, what was written or waits are the rows so far.
use Rattle.std.proofs.Common.{take}
use Rattle.reports.specs.Rows.{rows_text, numbered}
use Rattle.reports.specs.Final.{credit_rows}
use Rattle.reports.specs.Tables.{AddsRows}
use Rattle.reports.proofs.final_state.write_credits_of_core.Given as goal

abbrev pub invariant-loop-channel : goal.invariant-loop-channel
invariant-loop-channel g l =
    AddsRows g.W.Write.contents l.fn.writer l.fn.table l.writer l.table (rows_text (numbered (credit_rows l.ranks l.core) (take l.channel l.credits)))

-- Unless a row was lost, what was written or waits are the rows so far.
use Rattle.std.proofs.Common.{take}
use Rattle.reports.specs.Rows.{rows_text, numbered}
use Rattle.reports.specs.Final.{credits_of_core}
use Rattle.reports.specs.Tables.{AddsRows}
use Rattle.reports.proofs.final_state.write_credits.Given as goal

abbrev pub invariant-loop-core : goal.invariant-loop-core
invariant-loop-core g l =
    AddsRows g.W.Write.contents l.fn.writer l.fn.table l.writer l.table (rows_text (numbered (credits_of_core l.ranks) (take l.core l.cores)))

-- Unless a row was lost, what was written or waits are the rows so far.
use Rattle.std.proofs.Common.{take}
use Rattle.reports.specs.Rows.{rows_text, numbered}
use Rattle.reports.specs.Stats.{core_rows}
use Rattle.reports.specs.Tables.{AddsRows}
use Rattle.reports.proofs.stats.write_cores.Given as goal

abbrev pub invariant-loop-id : goal.invariant-loop-id
invariant-loop-id g l =
    AddsRows g.W.Write.contents l.fn.writer l.fn.table l.writer l.table (rows_text (numbered core_rows (take l.id l.cores)))

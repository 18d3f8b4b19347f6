-- Unless a row was lost, what was written or waits are the rows so far.
use Rattle.std.proofs.Common.{take, map}
use Rattle.reports.specs.Rows.{rows_text}
use Rattle.reports.specs.Stats.{value_fields}
use Rattle.reports.specs.Tables.{AddsRows}
use Rattle.statistics.specs.Counters.{counter_of, named}
use Rattle.reports.proofs.stats.write_numbers.Given as goal

abbrev pub invariant-loop-place : goal.invariant-loop-place
invariant-loop-place g l =
    AddsRows g.W.Write.contents l.fn.writer l.fn.table l.writer l.table
    (rows_text (map (value_fields l.unit.scope.now l.unit.id) (named (map counter_of (take l.place l.counters)) (take l.place l.numbers))))

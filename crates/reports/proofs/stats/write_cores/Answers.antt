use Rattle.std.proofs.Common.{◌<◌, length, arith}
use Rattle.reports.specs.Stats.{core_rows}
use Rattle.reports.proofs.RowLemmas.{added-more, nothing_added}
use Rattle.reports.proofs.TableLemmas.{numbered_none, numbered_more}
use Rattle.reports.proofs.stats.write_cores.Goals as goal

pub loop-id-init : goal.loop-id-init
loop-id-init g c = nothing_added _ _ (numbered_none core_rows)

pub loop-id-preserved : goal.loop-id-preserved
loop-id-preserved g c =
    let here : c.loop-id.id < length c.args.cores.now = omega arith in
    let written = rw (c.counters.ensures, c.numbers.ensures) at c.write_numbers.ensures in
    let joined = added-more _ _ _ _ _ c.loop-id.invariant written in
    rw (← numbered_more core_rows c.args.cores.now c.loop-id.id _ here) at joined

use Rattle.std.proofs.Common.{◌<◌, length, arith}
use Rattle.reports.specs.Final.{progress_rows}
use Rattle.reports.proofs.RowLemmas.{added-more, nothing_added}
use Rattle.reports.proofs.TableLemmas.{added-two, numbered_none, numbered_more}
use Rattle.reports.proofs.final_state.write_progress.Goals as goal

pub loop-core-init : goal.loop-core-init
loop-core-init g c = nothing_added _ _ (numbered_none (progress_rows c.args.ranks))

pub loop-core-preserved : goal.loop-core-preserved
loop-core-preserved g c =
    let here : c.loop-core.core < length c.args.cores.now = omega arith in
    let seen = rw c.index-cores-core.is at c.state.view_is in
    let issued = rw c.numbers_of_core-issued.ensures at c.write_numbers.ensures in
    let retired = rw c.numbers_of_core-retired.ensures at c.write_numbers-in-loop-core.ensures in
    let joined = added-more _ _ _ _ _ c.loop-core.invariant (added-two _ _ _ _ _ issued retired) in
    rw (numbered_more (progress_rows c.args.ranks) c.args.cores.now c.loop-core.core c.index-cores-core.result here, ← seen) joined

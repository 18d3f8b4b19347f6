use Rattle.std.proofs.Common.{◌<◌, length, arith}
use Rattle.reports.specs.Final.{credits_of_core}
use Rattle.reports.proofs.RowLemmas.{added-more, nothing_added}
use Rattle.reports.proofs.TableLemmas.{numbered_none, numbered_more}
use Rattle.reports.proofs.final_state.write_credits.Goals as goal

pub loop-core-init : goal.loop-core-init
loop-core-init g c = nothing_added _ _ (numbered_none (credits_of_core c.args.ranks))

pub loop-core-preserved : goal.loop-core-preserved
loop-core-preserved g c =
    let here : c.loop-core.core < length c.args.cores.now = omega arith in
    let seen = rw c.index-cores-core.is at c.state.view_is in
    let written = rw c.deref.ensures.value at c.write_credits_of_core.ensures in
    let joined = added-more _ _ _ _ _ c.loop-core.invariant written in
    rw (numbered_more (credits_of_core c.args.ranks) c.args.cores.now c.loop-core.core c.index-cores-core.result here, ← seen) joined

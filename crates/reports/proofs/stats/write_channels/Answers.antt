use Rattle.std.proofs.Common.{◌<◌, length, arith}
use Rattle.reports.specs.Stats.{channel_rows}
use Rattle.reports.proofs.RowLemmas.{added-more, nothing_added}
use Rattle.reports.proofs.TableLemmas.{numbered_none, numbered_more}
use Rattle.reports.proofs.stats.write_channels.Goals as goal

pub loop-id-init : goal.loop-id-init
loop-id-init g c = nothing_added _ _ (numbered_none channel_rows)

pub loop-id-preserved : goal.loop-id-preserved
loop-id-preserved g c =
    let here : c.loop-id.id < length c.args.channels.now = omega arith in
    let written = c.write_channel.ensures in
    let joined = added-more _ _ _ _ _ c.loop-id.invariant written in
    rw (← numbered_more channel_rows c.args.channels.now c.loop-id.id _ here) at joined

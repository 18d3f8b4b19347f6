use Rattle.std.proofs.Common.{◌<◌, length, arith, append_assoc}
use Rattle.reports.specs.Final.{channel_rows}
use Rattle.reports.proofs.RowLemmas.{added-more, nothing_added}
use Rattle.reports.proofs.TableLemmas.{numbered_none, numbered_more, rows_text-append}
use Rattle.reports.proofs.final_state.write_channels.Goals as goal

pub loop-channel-init : goal.loop-channel-init
loop-channel-init g c = nothing_added _ _ (numbered_none (channel_rows c.args.ranks))

pub loop-channel-preserved : goal.loop-channel-preserved
loop-channel-preserved g c =
    let here : c.loop-channel.channel < length c.args.channels.now = omega arith in
    let seen = rw c.index-channels-channel.is at c.state.view_is in
    let due = rw c.deref.ensures.value at c.write_due.ensures in
    let opened = rw c.deref-in-loop-channel.ensures.value at c.write_open_rows.ensures in
    let queue = rw c.deref-in-loop-channel-2.ensures.value at c.write_queue.ensures in
    let before = added-more _ _ _ _ _ (added-more _ _ _ _ _ c.loop-channel.invariant due) opened in
    let joined = added-more _ _ _ _ _ before queue in
    rw (numbered_more (channel_rows c.args.ranks) c.args.channels.now c.loop-channel.channel c.index-channels-channel.result here, ← seen, rows_text-append, rows_text-append, ← append_assoc, ← append_assoc) joined

-- Each channel in turn counts the cycle.
use Rattle.std.proofs.Common.{◌≡◌, ◌<◌, length, sym, ap, ◌∙◌, arith}
use Rattle.std.proofs.Math.ListN.{set}
use Rattle.std.specs.Prelude.{slice_index_or}
use Rattle.one_clock.specs.Cycles.{channel_stats_before, channel_stats_after}
use Rattle.one_clock.proofs.Units.{at_unit_of, below_units, below_halfway, halfway, halfway_none, halfway_at, halfway_more, halfway_all}
use Rattle.one_clock.proofs.tally.count_channels.Goals as goal

pub loop-channel-init : goal.loop-channel-init
loop-channel-init c =
    let s = c.args.cycle.now.config.now in
    let before = channel_stats_before c.args.cycle.now in
    let after = channel_stats_after c.args.cycle.now in
    c.requires.counts ∙ sym (halfway_none after before s.channels)

pub bounds-channels-i : goal.bounds-channels-i
bounds-channels-i c = below_units _ _ _ _ c.requires.channels (omega arith)

pub bounds-steps-i : goal.bounds-steps-i
bounds-steps-i c = below_units _ _ _ _ c.requires.steps (omega arith)

pub count_channel-requires-clause-past : goal.count_channel-requires-clause-past
count_channel-requires-clause-past c = c.index-channels-i.is ∙ at_unit_of _ _ _ _ _ c.requires.channels (omega arith)

pub count_channel-requires-clause-step : goal.count_channel-requires-clause-step
count_channel-requires-clause-step c = at_unit_of _ _ _ _ _ c.requires.steps (omega arith)

pub index_mut-requires : goal.index_mut-requires
index_mut-requires c =
    let l : c.loop-channel.channel < length c.loop-channel.counts.items = below_halfway _ _ _ _ _ c.loop-channel.invariant (omega arith) in
    omega (arith, l, c.loop-channel.counts.ok.0)

pub count_channel-requires-clause-counts : goal.count_channel-requires-clause-counts
count_channel-requires-clause-counts c =
    let s = c.args.cycle.now.config.now in
    let before = channel_stats_before c.args.cycle.now in
    let after = channel_stats_after c.args.cycle.now in
    let d = c.index_mut.result.now in
    c.index_mut.ensures.value
    ∙ ap (λ x. slice_index_or x c.loop-channel.channel d) c.loop-channel.invariant
    ∙ halfway_at after before s.channels c.loop-channel.channel d (omega arith)

pub loop-channel-preserved : goal.loop-channel-preserved
loop-channel-preserved c =
    let s = c.args.cycle.now.config.now in
    let before = channel_stats_before c.args.cycle.now in
    let after = channel_stats_after c.args.cycle.now in
    ap (λ x. set x c.loop-channel.channel c.count_channel.new.counts) c.loop-channel.invariant
    ∙ ap (set (halfway after before s.channels c.loop-channel.channel) c.loop-channel.channel) (c.in_ok-count_channel.ensures {u = tt})
    ∙ halfway_more after before s.channels c.loop-channel.channel (after 0) (omega arith)

pub returns : goal.returns
returns c =
    let s = c.args.cycle.now.config.now in
    let before = channel_stats_before c.args.cycle.now in
    let after = channel_stats_after c.args.cycle.now in
    let e : c.loop-channel.channel ≡ s.channels = omega arith in
    c.loop-channel.invariant ∙ ap (halfway after before s.channels) e ∙ halfway_all after before s.channels

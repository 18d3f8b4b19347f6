-- Each channel in turn is taken a cycle further.
use Rattle.std.proofs.Common.{◌≡◌, ◌<◌, length, sym, ap, ◌∙◌, arith}
use Rattle.std.proofs.Math.ListN.{set}
use Rattle.std.specs.Prelude.{slice_index_or}
use Rattle.one_clock.specs.Cycles.{channel_before, channel_after}
use Rattle.one_clock.proofs.Units.{at_unit_of, below_units, below_halfway, halfway, halfway_none, halfway_at, halfway_more, halfway_all}
use Rattle.one_clock.proofs.machine.note_channels.Goals as goal

pub loop-channel-init : goal.loop-channel-init
loop-channel-init c =
    let s = c.args.cycle.now.config.now in
    let before = channel_before c.args.cycle.now in
    let after = channel_after c.args.cycle.now in
    c.requires.channels ∙ sym (halfway_none after before s.channels)

pub bounds-steps-i : goal.bounds-steps-i
bounds-steps-i c = below_units _ _ _ _ c.requires.steps (omega arith)

pub note_channel-requires-clause-step : goal.note_channel-requires-clause-step
note_channel-requires-clause-step c = at_unit_of _ _ _ _ _ c.requires.steps (omega arith)

pub index_mut-requires : goal.index_mut-requires
index_mut-requires c =
    let l : c.loop-channel.channel < length c.loop-channel.channels.items = below_halfway _ _ _ _ _ c.loop-channel.invariant (omega arith) in
    omega (arith, l, c.loop-channel.channels.ok.0)

pub note_channel-requires-clause-past : goal.note_channel-requires-clause-past
note_channel-requires-clause-past c =
    let s = c.args.cycle.now.config.now in
    let before = channel_before c.args.cycle.now in
    let after = channel_after c.args.cycle.now in
    let d = c.index_mut.result.now in
    c.index_mut.ensures.value
    ∙ ap (λ x. slice_index_or x c.loop-channel.channel d) c.loop-channel.invariant
    ∙ halfway_at after before s.channels c.loop-channel.channel d (omega arith)

pub loop-channel-preserved : goal.loop-channel-preserved
loop-channel-preserved c =
    let s = c.args.cycle.now.config.now in
    let before = channel_before c.args.cycle.now in
    let after = channel_after c.args.cycle.now in
    ap (λ x. set x c.loop-channel.channel c.note_channel.new.past) c.loop-channel.invariant
    ∙ ap (set (halfway after before s.channels c.loop-channel.channel) c.loop-channel.channel) (c.in_ok-note_channel.ensures {u = tt})
    ∙ halfway_more after before s.channels c.loop-channel.channel (after 0) (omega arith)

pub returns : goal.returns
returns c =
    let s = c.args.cycle.now.config.now in
    let before = channel_before c.args.cycle.now in
    let after = channel_after c.args.cycle.now in
    let e : c.loop-channel.channel ≡ s.channels = omega arith in
    c.loop-channel.invariant ∙ ap (halfway after before s.channels) e ∙ halfway_all after before s.channels

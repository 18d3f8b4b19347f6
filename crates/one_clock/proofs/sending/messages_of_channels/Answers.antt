-- Each channel is where the list has it, and sends what its step says.
use Rattle.std.proofs.Common.{◌≡◌, ℕ, ◌<◌, List, ◌++◌, sym, ap, ap₂, ◌∙◌, arith}
use Rattle.sim_base.specs.declared.config.Config.{Config}
use Rattle.sim_base.specs.declared.trace.Entry.{Entry}
use Rattle.sim_base.specs.History.{messages_at}
use Rattle.sim_base.specs.Machine.{run, next_step}
use Rattle.sim_base.specs.Sends.{channel_sends}
use Rattle.sim_base.proofs.Spans.{length_run}
use Rattle.sim_base.proofs.Lists.{flat_map_below-more}
use Rattle.plain_steps.specs.Plain.{channel_step_of}
use Rattle.plain_steps.specs.declared.scheduling.ChannelStep.{ChannelStep}
use Rattle.one_clock.proofs.Next.{channel_step_is}
use Rattle.one_clock.proofs.Units.{at_unit_of, below_units}
use Rattle.one_clock.proofs.sending.messages_of_channels.Goals as goal

sends_of_step : (s : Config) (traces : List (List Entry)) (n k : ℕ) → k < s.channels
    → messages_at s k n (channel_step_of s traces (run s traces n) k).command ≡ channel_sends s (run s traces n) (next_step s traces (run s traces n)) k
unfolding channel_sends
sends_of_step s traces n k l = ap₂ (λ m o. messages_at s k m o) (sym (length_run s traces n)) (sym (channel_step_is s traces (run s traces n) k l))

pub bounds-steps-channel : goal.bounds-steps-channel
bounds-steps-channel c = below_units _ _ _ _ c.requires.steps (omega arith)

pub loop-channel-preserved : goal.loop-channel-preserved
loop-channel-preserved c =
    let here = c.loop-channel.channel in
    let l : here < c.args.cycle.now.config.now.channels = omega arith in
    (c.in_ok-extend_from_slice.ensures {u = tt}).items
    ∙ ap₂ (λ xs ys. xs ++ ys) c.loop-channel.invariant
    (c.deref.ensures.value
    ∙ c.in_ok-more.ensures {u = tt}
    ∙ ap (λ (x : ChannelStep). messages_at c.args.cycle.now.config.now here c.args.cycle.now.number x.command) (at_unit_of _ _ _ here _ c.requires.steps l)
    ∙ sends_of_step c.args.cycle.now.config.now c.args.cycle.now.traces.now c.args.cycle.now.number here l)
    ∙ sym (flat_map_below-more _ here)

-- Each channel is where the list has it.
use Rattle.std.proofs.Common.{◌≡◌, ◌++◌, sym, ap, ap₂, ◌∙◌, arith}
use Rattle.std.specs.Option.{option_to_list}
use Rattle.sim_base.specs.History.{commands, issued_at}
use Rattle.sim_base.specs.Machine.{run}
use Rattle.plain_steps.specs.declared.scheduling.ChannelStep.{ChannelStep}
use Rattle.one_clock.proofs.Next.{issued_below, issued_more, issued_all}
use Rattle.one_clock.proofs.Units.{at_unit_of, below_units}
use Rattle.one_clock.proofs.machine.note_commands.Goals as goal

pub bounds-steps-channel : goal.bounds-steps-channel
bounds-steps-channel c = below_units _ _ _ _ c.requires.steps (omega arith)

pub loop-channel-preserved : goal.loop-channel-preserved
loop-channel-preserved c =
    let here = c.loop-channel.channel in
    c.in_ok-push_command.ensures {u = tt}
    ∙ ap₂ (λ xs o. xs ++ option_to_list o) c.loop-channel.invariant
    (c.issued_command.ensures ∙ ap (λ (x : ChannelStep). issued_at here c.args.cycle.now.number x.command) (at_unit_of _ _ _ here _ c.requires.steps (omega arith)))
    ∙ sym (issued_more c.args.cycle.now.config.now c.args.cycle.now.traces.now c.args.cycle.now.number here)

pub returns : goal.returns
returns c =
    let s = c.args.cycle.now.config.now in
    let traces = c.args.cycle.now.traces.now in
    let e : c.loop-channel.channel ≡ s.channels = omega arith in
    c.loop-channel.invariant
    ∙ ap (λ k. commands (run s traces c.args.cycle.now.number) ++ issued_below s traces c.args.cycle.now.number k) e
    ∙ issued_all s traces c.args.cycle.now.number

use Rattle.std.proofs.Common.{◌<◌, ap, ◌∙◌, arith}
use Rattle.sim_base.specs.Counts.{is_hit}
use Rattle.sim_base.specs.Machine.{run}
use Rattle.plain_steps.specs.Plain.{ChannelView, channel_view}
use Rattle.one_clock.proofs.Units.{at_unit_of, length_units}
use Rattle.one_clock.proofs.requests.hits.Goals as goal

pub returns : goal.returns
returns c =
    let s = c.args.cycle.now.config.now in
    let view = channel_view s c.args.cycle.now.traces.now (run s c.args.cycle.now.traces.now c.args.cycle.now.number) in
    let row = c.args.row.now in
    let long = length_units c.args.channels.now view s.channels c.requires.channels in
    let inside : row.channel < s.channels = omega (arith, long, c.if-row-channels.false) in
    let past = c.index-channels-row.is ∙ at_unit_of c.args.channels.now view s.channels row.channel _ c.requires.channels inside in
    c.is_command_hit.ensures ∙ ap (λ history. is_hit history row.command) (c.commands.ensures ∙ ap (λ (v : ChannelView). v.commands) past)

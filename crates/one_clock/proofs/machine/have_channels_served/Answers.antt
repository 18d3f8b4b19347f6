-- One channel more is asked.
use Rattle.std.proofs.Common.{◌&&◌, sym, ap, ◌∙◌, arith}
use Rattle.sim_base.specs.Machine.{run, has_served}
use Rattle.one_clock.proofs.Units.{at_unit_of, below_units, list_all_below_more}
use Rattle.one_clock.proofs.machine.have_channels_served.Goals.{then-all, else-all}
use Rattle.one_clock.proofs.machine.have_channels_served.Goals as goal

pub bounds-channels-channel : goal.bounds-channels-channel
bounds-channels-channel c = below_units _ _ _ _ c.requires.channels (omega arith)

pub has_channel_served-requires : goal.has_channel_served-requires
has_channel_served-requires c = record { past = c.index-channels-channel.is ∙ at_unit_of _ _ _ _ _ c.requires.channels (omega arith) }

pub loop-channel-preserved : goal.loop-channel-preserved
loop-channel-preserved c =
    let here = c.loop-channel.channel in
    let p = has_served c.args.cycle.now.config.now c.args.cycle.now.traces.now (run c.args.cycle.now.config.now c.args.cycle.now.traces.now c.args.cycle.now.number) in
    elim c.if-all.branch [ then-all w ↦ w.all-is ∙ c.in_ok-served.ensures {u = tt} ∙ ap (λ b. b && p here) (sym w.if-all.true ∙ c.loop-channel.invariant) ∙ sym (list_all_below_more p here) | else-all w ↦ w.all-is ∙ w.if-all.false ∙ ap (λ b. b && p here) (sym w.if-all.false ∙ c.loop-channel.invariant) ∙ sym (list_all_below_more p here) ]

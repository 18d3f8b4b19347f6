use Rattle.std.proofs.Common.{◌<◌, ◌+◌, ◌∙◌, ap, ap₂, sym, subst, get_or}
use Rattle.sim_base.specs.Machine.{run}
use Rattle.sim_base.specs.declared.message.Unit.TheVariants as unit
use Rattle.statistics.specs.Runs.{final_of_channel}
use Rattle.units.specs.Parts.{IsPart}
use Rattle.units.proofs.Counted.{channel-stands, places-then}
use Rattle.units.proofs.ending.channels_left.Goals as goal

pub channel_left-requires : goal.channel_left-requires
channel_left-requires c =
    let machine = c.args.machine.now in
    let s = machine.config in
    let traces = machine.traces.items in
    let now = c.args.now in
    let l = c.loop-channel in
    let x = c.index-parts-place.result in
    let k : l.channel < s.channels = c.loop-channel-test.true in
    let stands = channel-stands machine now c.args.parts.now l.channel x c.requires.stand c.requires.count k in
    record {
      stands = subst (λ n. IsPart machine (unit.Channel n) now x) (sym c.from-in-loop-channel-2.ensures)
          (subst (IsPart machine (unit.Channel l.channel) now)
          (ap₂ (λ i j. get_or c.args.parts.now (i + j) x) (sym c.from.ensures) (sym c.from-in-loop-channel.ensures) ∙ sym c.index-parts-place.is) stands);
    }

pub loop-channel-preserved : goal.loop-channel-preserved
loop-channel-preserved c =
    let machine = c.args.machine.now in
    let s = machine.config in
    let traces = machine.traces.items in
    let now = c.args.now in
    let l = c.loop-channel in
    c.in_ok-push.ensures.items
    ∙ places-then (final_of_channel s traces (run s traces now)) l.channel l.left.items _ l.invariant
    (c.in_ok-channel_left.ensures {u = tt} ∙ ap (final_of_channel s traces (run s traces now)) c.from-in-loop-channel-2.ensures)

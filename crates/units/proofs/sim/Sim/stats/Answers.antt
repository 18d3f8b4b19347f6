use Rattle.std.proofs.Common.{◌≡◌, ◌∙◌, sym, ap, ap₂, subst}
use Rattle.std.specs.Prelude.{IfOk}
use Rattle.std.specs.Arc.{arc_value}
use Rattle.statistics.specs.Values.{RunStats}
use Rattle.units.specs.Parts.{StandAt}
use Rattle.units.specs.Runs.{each_core_stats, each_channel_stats}
use Rattle.units.specs.Views.{SimView, stats_now}
use Rattle.units.specs.declared.machine.Machine.{Machine}
use Rattle.units.proofs.Counted.{stats-are}
use Rattle.units.proofs.sim.Sim.stats.Goals as goal

pub returns : goal.returns
returns c =
    let f = c.self.inside in
    let machine = arc_value f.machine in
    let s = machine.config in
    let traces = machine.traces.items in
    let e = c.deref-machine.ensures in
    let for_cores = subst (λ (m : Machine). StandAt m f.now c.deref.result.now) (sym e)
    (subst (λ parts. StandAt machine f.now parts) (sym c.deref.ensures.value) c.self.invariant.stand) in
    let for_channels = subst (λ (m : Machine). StandAt m f.now c.deref-2.result.now) (sym e)
    (subst (λ parts. StandAt machine f.now parts) (sym c.deref-2.ensures.value) c.self.invariant.stand) in
    let cores = (c.in_ok-cores.ensures {u = tt}) f.now for_cores ∙ ap (λ (m : Machine). each_core_stats m f.now) e in
    let channels = (c.in_ok-channels.ensures {u = tt}) f.now for_channels ∙ ap (λ (m : Machine). each_channel_stats m f.now) e in
    subst (λ told. IfOk c.of_parts.result (λ x. x ≡ told))
    (ap₂ {C = RunStats} (λ xs ys. record { cycles = f.now; cores = xs; channels = ys }) (c.deref-3.ensures.value ∙ cores) (c.deref-4.ensures.value ∙ channels)
    ∙ stats-are s traces f.now
    ∙ ap (λ (v : SimView). stats_now v) c.self.view_is)
    c.of_parts.ensures

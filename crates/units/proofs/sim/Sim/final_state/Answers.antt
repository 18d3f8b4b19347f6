use Rattle.std.proofs.Common.{ap, ◌∙◌}
use Rattle.links.specs.InFlight.{InFlight}
use Rattle.units.specs.Runs.{each_core_final, each_channel_final}
use Rattle.units.specs.Views.{final_now}
use Rattle.units.specs.declared.machine.Machine.{Machine}
use Rattle.statistics.specs.Runs.{final_of}
use Rattle.units.proofs.Ended.{state_of}
use Rattle.units.proofs.sim.Sim.final_state.Goals as goal

pub returns : goal.returns
unfolding final_of
returns c =
    let f = c.self.inside in
    let e = c.deref-machine.ensures in
    state_of
    (c.in_ok-cores_left.ensures {u = tt} ∙ ap (λ (m : Machine). each_core_final m f.now) e)
    (c.in_ok-channels_left.ensures {u = tt} ∙ ap (λ (m : Machine). each_channel_final m f.now) e)
    (c.in_ok-messages.ensures {u = tt} ∙ ap (λ (l : InFlight). l.messages) c.self.invariant.flight)
    ∙ ap final_now c.self.view_is

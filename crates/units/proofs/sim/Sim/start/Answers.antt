use Rattle.std.proofs.Common.{◌≡◌, length, sym, ap, subst, ◌∙◌, arith}
use Rattle.units.specs.Parts.{IsSim, StandAt}
use Rattle.units.specs.Units.{unit_count}
use Rattle.units.specs.Views.{machine_with}
use Rattle.units.specs.declared.machine.Machine.{Machine}
use Rattle.units.proofs.Travelling.{none_in_flight}
use Rattle.units.proofs.sim.Sim.start.Goals as goal

pub invariant_of-result : goal.invariant_of-result
invariant_of-result c =
    let machine = machine_with c.args.config.now c.args.traces in
    let s = machine.config in
    let items = c.in_ok-parts.parts.items in
    let own = c.in_ok-machine.ensures {u = tt} in
    let made = c.in_ok-parts.ensures {u = tt} in
    let is = c.deref.ensures ∙ own in
    let stands : IsSim machine 0 0 items c.in_ok-links.links = record {
      counted = omega arith;
      early = omega arith;
      count = subst (λ (m : Machine). length items ≡ unit_count m.config) is made.count;
      stand = subst (λ m. StandAt m 0 items) is made.stand;
      flight = c.in_ok-links.ensures {u = tt} ∙ ap (λ ms. record { channels = s.channels; messages = ms }) (sym (none_in_flight s machine.traces.items));
    } in
    subst (λ m. IsSim m 0 0 items c.in_ok-links.links) (sym own) stands

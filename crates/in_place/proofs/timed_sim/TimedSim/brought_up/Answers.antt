use Rattle.std.proofs.Common.{◌≡◌, ◌+◌, length, ap, subst, sym, ◌∙◌, arith}
use Rattle.std.specs.Arc.{arc_value}
use Rattle.links.specs.InFlight.{InFlight}
use Rattle.units.specs.Flight.{among}
use Rattle.units.specs.Parts.{StandAt}
use Rattle.units.specs.Runs.{flight_at}
use Rattle.units.specs.Units.{unit_count}
use Rattle.units.specs.Wakes.{WaitAll}
use Rattle.units.specs.declared.machine.Machine.{Machine}
use Rattle.units.proofs.Sharing.{among-all}
use Rattle.in_place.specs.Turns.{AreByKind, all_units, all_words}
use Rattle.in_place.proofs.timed_sim.TimedSim.brought_up.Goals as goal

pub brought_up-requires-clause-by_kind : goal.brought_up-requires-clause-by_kind
brought_up-requires-clause-by_kind c = subst (λ (x : Machine). AreByKind x c.self.inside.kinds) (sym c.deref.ensures) c.self.invariant.by_kind

pub brought_up-requires-clause-count : goal.brought_up-requires-clause-count
brought_up-requires-clause-count c =
    subst (λ (x : Machine). length (all_units c.self.inside.kinds) ≡ unit_count x.config) (sym c.deref.ensures) c.self.invariant.count

pub brought_up-requires-clause-wait : goal.brought_up-requires-clause-wait
brought_up-requires-clause-wait c =
    let f = c.self.inside in
    subst (λ (x : Machine). WaitAll x 0 f.now f.now (all_units f.kinds) (all_words f.kinds)) (sym c.deref.ensures) c.self.invariant.between_phases.wait

pub invariant_of-result : goal.invariant_of-result
invariant_of-result c =
    let f = c.self.inside in
    let m = arc_value f.machine in
    let h = c.self.invariant in
    let parts = c.in_ok-parts.parts.items in
    let brought = c.in_ok-parts.ensures {u = tt} in
    record {
      counted = h.counted;
      early = h.between_phases.early;
      count = subst (λ (x : Machine). length parts ≡ unit_count x.config) c.deref.ensures brought.count;
      stand = subst (λ (x : Machine). StandAt x f.now parts) c.deref.ensures brought.stand;
      flight = h.between_phases.flight
          ∙ ap {B = InFlight} (λ n. record { channels = m.config.channels; messages = among m.config 0 n (flight_at m f.now) }) (let e : 0 + length (all_units f.kinds) ≡ unit_count m.config = omega (arith, h.count) in e)
          ∙ ap {B = InFlight} (λ z. record { channels = m.config.channels; messages = z }) (among-all m.config m.traces.items f.now);
    }

use Rattle.std.proofs.Common.{◌≡◌, length, sym, subst, ◌∙◌}
use Rattle.std.specs.Arc.{arc_value}
use Rattle.units.specs.Units.{unit_count}
use Rattle.units.specs.declared.machine.Machine.{Machine}
use Rattle.units.proofs.Jumping.{awake-sim}
use Rattle.in_place.specs.Turns.{AreByKind, all_units, all_words}
use Rattle.in_place.proofs.timed_sim.TimedSim.of.Goals as goal

pub by_kind-requires : goal.by_kind-requires
by_kind-requires c =
    subst (λ (x : Machine). length c.sim.inside.parts.items ≡ unit_count x.config) (sym c.deref.ensures) c.sim.invariant.count

pub invariant_of-result : goal.invariant_of-result
invariant_of-result c =
    let f = c.sim.inside in
    let m = arc_value f.machine in
    let sim = c.sim.invariant in
    let kinds = c.in_ok-kinds.kinds in
    let made = c.in_ok-kinds.ensures {u = tt} in
    record {
      counted = sim.counted;
      by_kind = subst (λ (x : Machine). AreByKind x kinds) c.deref.ensures made.by_kind;
      count = made.units.count ∙ sim.count;
      between_phases = awake-sim m f.now f.phase f.parts.items f.links (all_units kinds) (all_words kinds) sim made.units made.words;
    }

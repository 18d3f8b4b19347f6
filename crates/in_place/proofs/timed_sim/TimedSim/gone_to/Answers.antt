use Rattle.std.proofs.Common.{◌≡◌, length, sym, ap, subst, ◌∙◌, arith}
use Rattle.units.specs.Units.{unit_count}
use Rattle.units.specs.Views.{SimView}
use Rattle.units.specs.declared.machine.Machine.{Machine}
use Rattle.in_place.specs.Turns.{AllBetweenPhases, AreByKind, all_units}
use Rattle.in_place.proofs.timed_sim.TimedSim.gone_to.Goals as goal

pub run_to-requires-clause-by_kind : goal.run_to-requires-clause-by_kind
run_to-requires-clause-by_kind c = subst (λ (x : Machine). AreByKind x c.self.inside.kinds) (sym c.deref.ensures) c.self.invariant.by_kind

pub run_to-requires-clause-between_phases : goal.run_to-requires-clause-between_phases
run_to-requires-clause-between_phases c =
    let f = c.self.inside in
    subst (λ (x : Machine). AllBetweenPhases x f.now f.kinds f.traffic.links) (sym c.deref.ensures) c.self.invariant.between_phases

pub run_to-requires-clause-whole : goal.run_to-requires-clause-whole
run_to-requires-clause-whole c =
    subst (λ (x : Machine). length (all_units c.self.inside.kinds) ≡ unit_count x.config) (sym c.deref.ensures) c.self.invariant.count

pub invariant_of-result : goal.invariant_of-result
invariant_of-result c =
    let after = c.in_ok-run_to.ensures {u = tt} in
    let kinds = c.run_to.new.kinds in
    record {
      counted = let now = ap (λ (v : SimView). v.now) c.self.view_is in let l = c.requires.not_past in omega (arith, c.self.invariant.counted);
      by_kind = subst (λ (x : Machine). AreByKind x kinds) c.deref.ensures after.by_kind;
      count = after.count ∙ c.self.invariant.count;
      between_phases = subst (λ (x : Machine). AllBetweenPhases x c.args.limit kinds c.run_to.new.traffic.links) c.deref.ensures after.between_phases;
    }

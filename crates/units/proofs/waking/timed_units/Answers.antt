use Rattle.std.proofs.Common.{rules, ◌∷◌, [], ◌++◌, length, refl, sym, ap, subst, ◌∙◌, append_assoc, arith}
use Rattle.std.specs.Vec.Iter.{into_iter_items}
use Rattle.units.specs.Wakes.{AreTimedUnits}
use Rattle.units.proofs.Jumping.{units-push, units-none}
use Rattle.units.proofs.Standing.{all-yielded}
use Rattle.units.proofs.waking.timed_units.Goals as goal

pub loop-part-init : goal.loop-part-init
loop-part-init c = (refl, search rules, units-none c.args.now c.in_ok-units.units.items c.in_ok-units.ensures.items)

pub loop-part-preserved : goal.loop-part-preserved
loop-part-preserved c =
    let at = c.loop-part in
    let x = c.in-Some.part in
    let steps = c.in-Some.ensures.steps in (
      append_assoc at.yielded (x ∷ []) _ ∙ ap (λ z. at.yielded ++ z) (sym steps.0) ∙ at.invariant.0,
      let was = at.invariant.1 in
          let remaining = steps.1 in
          let short = ap length steps.0 in
          omega arith,
      subst (AreTimedUnits c.args.now (at.yielded ++ x ∷ [])) (sym c.in_ok-push.ensures.items)
          (units-push c.args.now at.yielded at.units.items x (record { part = x; at = c.args.now }) at.invariant.2 refl refl),
    )

pub returns : goal.returns
returns c =
    let at = c.loop-part in
    let all = all-yielded at.yielded (into_iter_items at.part-iterator) c.args.parts.items (at.invariant.0 ∙ c.into_iter-part-iterator.ensures.into_iter_gives.0)
    (sym at.invariant.1 ∙ c.in-None.ensures.steps.0) in
    subst (λ z. AreTimedUnits c.args.now z at.units.items) all at.invariant.2

use Rattle.std.proofs.Common.{rules, ◌≡◌, ◌+◌, ◌∷◌, [], ◌++◌, length, get_or, refl, sym, ap, subst, ◌∙◌, append_assoc, arith}
use Rattle.std.proofs.Math.Seq.{get_or-append_seam}
use Rattle.units.specs.Units.{unit_at}
use Rattle.units.specs.Parts.{IsPart, StandAt}
use Rattle.units.proofs.Standing.{seam-within, stand-push}
use Rattle.units.specs.Wakes.{Waits, unit_with_word, unit_with_word_at}
use Rattle.units.specs.declared.timed_unit.TimedUnit.{TimedUnit}
use Rattle.units.proofs.waking.bring_up.Goals as goal
use Rattle.sim_base.proofs.Added.{length-push_suc}

pub brought_up-requires-clause-waits : goal.brought_up-requires-clause-waits
brought_up-requires-clause-waits c =
    let machine = c.args.machine.now in
    let now = c.args.now in
    let units = c.args.range.units.items in
    let words = c.args.range.words.items in
    let at = c.loop-unit in
    let x = c.in-Some.unit in
    let k = length at.yielded in
    let whole = ap (λ z. at.yielded ++ z) (sym c.in-Some.ensures.steps.0) ∙ at.invariant.0 ∙ c.into_iter-unit-iterator.ensures.into_iter_gives.0 in
    let less = seam-within units at.yielded _ x (length units) whole refl in
    let here : get_or units k x ≡ x = ap (λ z. get_or z k x) (sym whole) ∙ get_or-append_seam at.yielded x _ x in
    let len : c.len-place.result ≡ length at.parts.items = search rules in
    let place : length c.args.parts.now.items + k ≡ c.len-place.result = sym (len ∙ at.invariant.2) in
    record {
      word = get_or words k 0;
      waits =
          subst (λ (u : TimedUnit). Waits machine (unit_at machine.config c.len-place.result) now now (unit_with_word u (get_or words k 0))) here
          (subst (λ i. Waits machine (unit_at machine.config i) now now (unit_with_word_at units words k x)) place (c.requires.wait k x less));
    }

pub loop-unit-preserved : goal.loop-unit-preserved
loop-unit-preserved c =
    let machine = c.args.machine.now in
    let at = c.loop-unit in
    let x = c.in-Some.unit in
    let y = c.in_ok-brought_up.field-0 in
    let now = c.args.now in
    let steps = c.in-Some.ensures.steps in
    let grown = length-push_suc at.yielded x in
    let len : c.len-place.result ≡ length at.parts.items = search rules in
    let there = ap (unit_at machine.config) len in
    let items = c.in_ok-push.ensures.items in (
      append_assoc at.yielded (x ∷ []) _ ∙ ap (λ z. at.yielded ++ z) (sym steps.0) ∙ at.invariant.0,
      let was = at.invariant.1 in
          let remaining = steps.1 in
          let short = ap length steps.0 in
          omega arith,
      let more = ap length items ∙ length-push_suc at.parts.items y in
          let before = at.invariant.2 in
          omega (arith, more, before, grown),
      subst (StandAt machine now) (sym items)
          (stand-push machine now at.parts.items y at.invariant.3 (subst (λ u. IsPart machine u now y) there (c.in_ok-brought_up.ensures {u = tt}))),
    )

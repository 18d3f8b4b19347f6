-- Each result that is taken apart has its place among the shards, its lists and its cycle.
use Rattle.std.proofs.Common.{rules, ◌∷◌, [], ◌++◌, length, refl, sym, ap, subst, ◌∙◌, append_assoc, arith}
use Rattle.std.specs.Vec.Iter.{into_iter_items}
use Rattle.shards.specs.Jobs.{JobView, IsDone}
use Rattle.shards.specs.Phases.{jobs_of}
use Rattle.units.proofs.Standing.{all-yielded}
use Rattle.shards.proofs.Placing.{there, there-nothing, there-some, there-none, there-all}
use Rattle.shards.proofs.TakingApart.{AreTaken, taken-none, taken-push, taken-all}
use Rattle.shards.proofs.merging.take_apart.Goals as goal

pub loop-place-init : goal.loop-place-init
loop-place-init c = (
  refl,
  search rules,
  subst (λ z. AreTaken 18446744073709551615 z c.in_ok-shards.shards.items c.in_ok-outbound.outbound.items) (sym there-nothing) (taken-none _ c.in_ok-shards.shards.items c.in_ok-outbound.outbound.items (omega arith) c.in_ok-shards.ensures.items c.in_ok-outbound.ensures.items),
)

pub returns : goal.returns
returns c p early are =
    let at = c.loop-place in
    let all = all-yielded at.yielded (into_iter_items at.place-iterator) c.args.places.items (at.invariant.0 ∙ c.into_iter-place-iterator.ensures.into_iter_gives.0)
    (sym at.invariant.1 ∙ c.in-None.ensures.steps.0) in
    taken-all p at.first (there at.yielded) at.shards.items at.outbound.items at.invariant.2 early (ap there (all ∙ are) ∙ there-all (jobs_of p))

pub loop-place-preserved : goal.loop-place-preserved
loop-place-preserved c =
    let at = c.loop-place in
    let x = c.in-Some.place in
    let v = c.in-Some-place.done in
    let steps = c.in-Some.ensures.steps in
    let inside = c.done.inside in
    let done = subst (λ (v : JobView). IsDone v.machine v.bounds v.name inside.wake inside.shard.value inside.outbound.items) c.done.view_is c.done.invariant in
    let push = taken-push at.first inside.wake c.min-first.result (there at.yielded) at.shards.items at.outbound.items v inside.shard inside.outbound c.min-first.ensures at.invariant.2 done in
    let those = ap (λ z. there (at.yielded ++ z ∷ [])) c.in-Some-place.is ∙ there-some at.yielded v in (
      append_assoc at.yielded (x ∷ []) _ ∙ ap (λ z. at.yielded ++ z) (sym steps.0) ∙ at.invariant.0,
      let was = at.invariant.1 in
          let remaining = steps.1 in
          let short = ap length steps.0 in
          omega arith,
      subst (λ z. AreTaken c.min-first.result z c.push.new.self.items c.push-in-loop-place.new.self.items) (sym those)
          (subst (λ z. AreTaken c.min-first.result (there at.yielded ++ v ∷ []) z c.push-in-loop-place.new.self.items) (sym c.in_ok-push.ensures.items)
          (subst (λ z. AreTaken c.min-first.result (there at.yielded ++ v ∷ []) (at.shards.items ++ inside.shard ∷ []) z) (sym c.in_ok-push-2.ensures.items) push)),
    )

pub loop-place-preserved-in_default : goal.loop-place-preserved-in_default
loop-place-preserved-in_default c =
    let at = c.loop-place in
    let x = c.in-Some.place in
    let steps = c.in-Some.ensures.steps in
    let those = ap (λ z. there (at.yielded ++ z ∷ [])) c.in_default.is ∙ there-none at.yielded in (
      append_assoc at.yielded (x ∷ []) _ ∙ ap (λ z. at.yielded ++ z) (sym steps.0) ∙ at.invariant.0,
      let was = at.invariant.1 in
          let remaining = steps.1 in
          let short = ap length steps.0 in
          omega arith,
      subst (λ z. AreTaken at.first z at.shards.items at.outbound.items) (sym those) at.invariant.2,
    )

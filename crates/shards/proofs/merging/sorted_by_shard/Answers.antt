use Rattle.std.proofs.Common.{◌≡◌, List, [], ◌∷◌, ◌++◌, length, length-append, get_or, map, refl, rules, ap, sym, subst, ◌∙◌, append_assoc, arith}
use Rattle.std.specs.Prelude.{All}
use Rattle.std.specs.Vec.Iter.{into_iter_items}
use Rattle.std.proofs.lemmas.List.{map-append, length-map, length_push, nil_from_length}
use Rattle.std.proofs.Math.Seq.{get_or-append_seam}
use Rattle.std.proofs.lemmas.Result.{err_from_is_err_and}
use Rattle.shards.specs.Merging.{IsOf, first_fault, results_at}
use Rattle.shards.specs.Jobs.{JobView}
use Rattle.shards.proofs.Placing.{results-count, first-none_yet, first-found, first-end}
use Rattle.units.proofs.Standing.{all-yielded}
use Rattle.shards.proofs.merging.sorted_by_shard.Goals as goal

-- what holds of all items holds of the next
all-next : (P : JobView → Type 0) (xs done rest : List JobView) (x : JobView) → done ++ x ∷ rest ≡ xs → All P xs → P x
all-next P xs done rest x e all =
    let long = ap length e in
    let here = ap (λ z. get_or z (length done) x) (sym e) ∙ get_or-append_seam done x rest x in
    subst P here (all (length done) x (omega (arith, long, length-append done (x ∷ rest))))

pub loop-done-init : goal.loop-done-init
loop-done-init c =
    let p = c.args.phase.now in (
      refl,
      search rules,
      refl,
      ap length c.requires.empty ∙ results-count p [],
      c.requires.empty,
      refl,
    )

pub returns-in_err-put-clause-err : goal.returns-in_err-put-clause-err
returns-in_err-put-clause-err c =
    let p = c.args.phase.now in
    let at = c.loop-done in
    let names = map (λ (d : JobView). d.name) at.yielded in
    let steps = c.in-Some.ensures.steps in
    let q = err_from_is_err_and c.from_residual.result c.from_residual.ensures.1 in
    rw (q.1, q.2) (ap (λ ds. first_fault p [] (map (λ (d : JobView). d.name) ds)) (sym c.into_iter-done-iterator.ensures.into_iter_gives.0)
    ∙ at.invariant.5
    ∙ ap (λ ds. first_fault p names (map (λ (d : JobView). d.name) ds)) steps.0
    ∙ first-found p names _ c.in-Some.done.name _ (c.in_err-put.ensures.err names at.invariant.4 (length-map at.yielded (λ (d : JobView). d.name) ∙ sym at.invariant.2)))

pub loop-done-preserved : goal.loop-done-preserved
loop-done-preserved c =
    let p = c.args.phase.now in
    let at = c.loop-done in
    let x = c.in-Some.done in
    let names = map (λ (d : JobView). d.name) at.yielded in
    let steps = c.in-Some.ensures.steps in
    let put = c.in_ok-put.ensures.ok names at.invariant.4 (length-map at.yielded (λ (d : JobView). d.name) ∙ sym at.invariant.2) in
    let more = map-append (λ (d : JobView). d.name) at.yielded (x ∷ []) in (
      append_assoc at.yielded (x ∷ []) _ ∙ ap (λ z. at.yielded ++ z) (sym steps.0) ∙ at.invariant.0,
      let was = at.invariant.1 in
          let remaining = steps.1 in
          let short = ap length steps.0 in
          omega arith,
      let grown = length_push at.yielded x in omega (arith, grown, at.invariant.2),
      c.in_ok-put.ensures.count,
      put.1 ∙ ap (results_at p) (sym more),
      at.invariant.5
          ∙ ap (λ ds. first_fault p names (map (λ (d : JobView). d.name) ds)) steps.0
          ∙ first-none_yet p names _ x.name put.0
          ∙ ap (λ ns. first_fault p ns (map (λ (d : JobView). d.name) (into_iter_items c.next.new.self))) (sym more),
    )

pub returns-clause-ok : goal.returns-clause-ok
returns-clause-ok c =
    let p = c.args.phase.now in
    let at = c.loop-done in
    let gives = c.into_iter-done-iterator.ensures.into_iter_gives.0 in
    let none = nil_from_length (into_iter_items at.done-iterator) (sym at.invariant.1 ∙ c.in-None.ensures.steps.0) in
    let all = all-yielded at.yielded (into_iter_items at.done-iterator) c.args.results.items (at.invariant.0 ∙ gives) (sym at.invariant.1 ∙ c.in-None.ensures.steps.0) in (
      ap (λ ds. first_fault p [] (map (λ (d : JobView). d.name) ds)) (sym gives)
          ∙ at.invariant.5
          ∙ ap (λ ds. first_fault p (map (λ (d : JobView). d.name) at.yielded) (map (λ (d : JobView). d.name) ds)) none
          ∙ first-end p (map (λ (d : JobView). d.name) at.yielded),
      at.invariant.4 ∙ ap (λ ds. results_at p (map (λ (d : JobView). d.name) ds)) all,
    )

pub put-requires-clause-count : goal.put-requires-clause-count
put-requires-clause-count c = c.loop-done.invariant.3

pub put-requires-clause-of : goal.put-requires-clause-of
put-requires-clause-of c =
    let at = c.loop-done in
    let x = c.in-Some.done in
    let whole = ap (λ z. at.yielded ++ z) (sym c.in-Some.ensures.steps.0) ∙ at.invariant.0 ∙ c.into_iter-done-iterator.ensures.into_iter_gives.0 in
    all-next (IsOf c.args.phase.now) c.args.results.items at.yielded _ x whole c.requires.of

use Rattle.std.proofs.Common.{◌≡◌, ◌<◌, ◌≤◌, ◌⊎◌, inl, inr, refl, sym, subst, ◌∙◌, arith}
use Rattle.std.proofs.lemmas.Bool.{cases_lt, false≢true}
use Rattle.units.specs.Units.{unit_at}
use Rattle.units.specs.Drained.{HasFinished}
use Rattle.units.proofs.Lasting.{stands-there}
use Rattle.units.proofs.drained.all_finished.Goals as goal

pub returns-then-not-has_finished : goal.returns-then-not-has_finished
returns-then-not-has_finished c now h =
    let machine = c.args.machine.now in
    let s = machine.config in
    let traces = machine.traces.items in
    let place = c.loop-place.place in
    let l = c.loop-place-test.true in
    let stands = stands-there machine now c.args.parts.now place c.index-parts-place.result h l c.index-parts-place.is in
    let answer = c.has_finished.ensures now stands in
    (λ e. absurd (false≢true e), λ all. sym c.if-not-has_finished.true ∙ answer.1 (all place (omega (arith, c.requires.count, l))))

pub loop-place-preserved : goal.loop-place-preserved
loop-place-preserved c now h place m = go (cases_lt place c.loop-place.place)
  where
    go : (place < c.loop-place.place) ⊎ (c.loop-place.place ≤ place) → HasFinished c.args.machine.now now (unit_at c.args.machine.now.config place)
    go (inl k) = c.loop-place.invariant now h place k
    go (inr k) =
        let machine = c.args.machine.now in
        let s = machine.config in
        let traces = machine.traces.items in
        let same : c.loop-place.place ≡ place = omega arith in
        let stands = stands-there machine now c.args.parts.now c.loop-place.place c.index-parts-place.result h c.loop-place-test.true c.index-parts-place.is in
        subst (λ i. HasFinished machine now (unit_at s i)) same ((c.has_finished.ensures now stands).0 c.if-not-has_finished.false)

pub returns : goal.returns
returns c now h = (λ e place l. c.loop-place.invariant now h place (omega (arith, c.requires.count, l)), λ all. refl)

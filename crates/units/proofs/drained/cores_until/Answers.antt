use Rattle.std.proofs.Common.{◌≡◌, ◌<◌, ◌≤◌, ◌⊎◌, inl, inr, false, arith}
use Rattle.std.proofs.lemmas.Bool.{cases_lt}
use Rattle.units.specs.Runs.{is_over_at}
use Rattle.units.proofs.Lasting.{stands-there}
use Rattle.units.proofs.drained.cores_until.Goals as goal

pub loop-place-init : goal.loop-place-init
loop-place-init c h t a b = absurd (omega arith)

pub unit_until-requires : goal.unit_until-requires
unit_until-requires c = record { place = omega (arith, c.loop-place-test.true, c.requires.count) }

pub loop-place-preserved : goal.loop-place-preserved
loop-place-preserved c h t a b = go (cases_lt t c.loop-place.until)
  where
    go : (t < c.loop-place.until) ⊎ (c.loop-place.until ≤ t) → is_over_at c.args.machine.now t ≡ false
    go (inl k) = c.loop-place.invariant h t a k
    go (inr k) =
        let stands = stands-there c.args.machine.now c.args.now c.args.parts.now c.loop-place.place c.index-parts-place.result h c.loop-place-test.true c.index-parts-place.is in
        c.unit_until.ensures stands t a (omega arith)

pub returns : goal.returns
returns c = c.loop-place.invariant

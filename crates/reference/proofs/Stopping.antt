-- Where a run has not ended.
use Rattle.std.proofs.Common.{◌≡◌, ℕ, ◌<◌, ◌≤◌, false, ◌⊎◌, inl, inr, sym, ap, ◌∙◌, arith}
use Rattle.std.proofs.lemmas.Bool.{cases_lt}
use Rattle.units.specs.Drained.{NotEnded}
use Rattle.units.specs.Runs.{ends_at}
use Rattle.units.specs.declared.machine.Machine.{Machine}

-- a run that did not end up to a cycle, nor from there up to a stop, did not end up to the stop
pub on-next : (machine other : Machine) (from now stop then : ℕ) → other ≡ machine → then ≡ stop → NotEnded machine from now → NotEnded other now stop → NotEnded machine from then
on-next machine other from now stop then e g before after t l k = go (cases_lt t now)
  where
    go : (t < now) ⊎ (now ≤ t) → ends_at machine t ≡ false
    go (inl b) = before t l b
    go (inr b) = ap (λ x. ends_at x t) (sym e) ∙ after t b (omega (arith, k, g))

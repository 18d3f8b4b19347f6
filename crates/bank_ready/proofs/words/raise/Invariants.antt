-- The words so far are raised, and no others.
use Rattle.bank_ready.proofs.Raising.{ArePartRaised}
use Rattle.bank_ready.proofs.words.raise.Given as goal

abbrev pub invariant-loop-place : goal.invariant-loop-place
invariant-loop-place g l = ArePartRaised l.fn.words l.words l.first l.place (λ k. l.until)

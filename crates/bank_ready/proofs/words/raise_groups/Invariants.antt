-- The words of the groups so far are raised, and no others.
use Rattle.std.proofs.Common.{◌*◌, ◌%◌, eqb, cond}
use Rattle.bank_ready.proofs.Raising.{ArePartRaised}
use Rattle.bank_ready.proofs.words.raise_groups.Given as goal

abbrev pub invariant-loop-other : goal.invariant-loop-other
invariant-loop-other l = ArePartRaised l.fn.words l.words (4 * l.rank) l.other (λ k. cond (eqb l.group (k % 4)) l.same_group l.other_group)

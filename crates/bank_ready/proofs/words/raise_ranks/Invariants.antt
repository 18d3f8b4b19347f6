-- The words of the ranks so far are raised, and no others.
use Rattle.std.proofs.Common.{◌*◌}
use Rattle.bank_ready.specs.Words.{ranks_until}
use Rattle.bank_ready.proofs.Raising.{ArePartRaised}
use Rattle.bank_ready.proofs.words.raise_ranks.Given as goal

abbrev pub invariant-loop-other : goal.invariant-loop-other
invariant-loop-other l = ArePartRaised l.fn.words l.words 0 (4 * l.other) (ranks_until l.rank l.same_rank l.other_rank)

-- None is wanted before the one that is looked at next.
use Rattle.queue.proofs.Behind.{IsAhead, left_to_meet}
use Rattle.queue.proofs.bank_candidates.search.first_behind.Given as goal

abbrev pub invariant-loop-alike : goal.invariant-loop-alike
invariant-loop-alike l = IsAhead l.log.log l.bank l.fn.access l.row l.place l.alike

abbrev pub decreases-loop-alike : goal.decreases-loop-alike
decreases-loop-alike l = left_to_meet l.log.log l.alike

use Rattle.std.proofs.Common.{length, ◌-◌}
use Rattle.queue.specs.Candidates.{wants}
use Rattle.queue.specs.Moves.{NonePassesBefore}
use Rattle.queue.proofs.bank_candidates.search.first_from.Given as goal

-- none so far
abbrev pub invariant-loop-at : goal.invariant-loop-at
invariant-loop-at l = NonePassesBefore (wants l.bank l.access l.row) l.log.log l.fn.from → NonePassesBefore (wants l.bank l.access l.row) l.log.log l.at

abbrev pub decreases-loop-at : goal.decreases-loop-at
decreases-loop-at l = length l.tags - l.at

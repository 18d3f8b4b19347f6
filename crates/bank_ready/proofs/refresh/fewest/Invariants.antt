use Rattle.bank_ready.proofs.LeastCount.{IsLeast}
use Rattle.bank_ready.proofs.refresh.fewest.Given as goal

-- the least of the counts so far
abbrev pub invariant-loop-i : goal.invariant-loop-i
invariant-loop-i l = IsLeast l.counts l.i l.fewest

-- The seat knows what it knew.
use Rattle.std.proofs.Common.{◌≡◌}
use Rattle.crew.proofs.run.start.Given as goal

abbrev pub invariant-loop-worker : goal.invariant-loop-worker
invariant-loop-worker g l = l.seat ≡ l.fn.seat

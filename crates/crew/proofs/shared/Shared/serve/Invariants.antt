-- The seat has nothing that it has not returned.
use Rattle.std.proofs.Common.{◌≡◌, []}
use Rattle.crew.proofs.shared.Shared.serve.Given as goal

abbrev pub invariant-loop : goal.invariant-loop
invariant-loop g l = l.seat ≡ []

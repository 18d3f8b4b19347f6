-- What is done so far are the tasks that the seat took.
use Rattle.std.proofs.Common.{◌≡◌, map}
use Rattle.crew.proofs.shared.Shared.run_tasks.Given as goal

abbrev pub invariant-loop : goal.invariant-loop
invariant-loop g l = l.seat ≡ map g.D.DoneOf.task l.results.items

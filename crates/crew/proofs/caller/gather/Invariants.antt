-- What was returned so far are the tasks of the results.
use Rattle.std.proofs.Common.{◌≡◌, map}
use Rattle.crew.specs.Rule.{put_view}
use Rattle.crew.proofs.caller.gather.Given as goal

abbrev pub invariant-loop : goal.invariant-loop
invariant-loop g l = l.seat ≡ put_view l.fn.seat.put (map g.D.DoneOf.task l.results.items)

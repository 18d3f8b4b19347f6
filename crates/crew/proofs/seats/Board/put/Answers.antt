use Rattle.crew.proofs.Keeps.{puts, bounds}
use Rattle.crew.proofs.seats.Board.put.Goals as goal

pub push_as-requires-clause-rule : goal.push_as-requires-clause-rule
push_as-requires-clause-rule g c = let one = c.seat.invariant.1 in (puts _ _ _ _ one, bounds _ _ one)

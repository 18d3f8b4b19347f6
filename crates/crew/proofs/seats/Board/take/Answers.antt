use Rattle.crew.proofs.Keeps.{takes}
use Rattle.crew.proofs.seats.Board.take.Goals as goal

pub pop_as-requires-clause-rule : goal.pop_as-requires-clause-rule
pop_as-requires-clause-rule g c = (takes _ _, λ items views k at. (views, _, at, k))

use Rattle.crew.proofs.Keeps.{adds_empty}
use Rattle.crew.proofs.seats.Board.new_take_seat.Goals as goal

pub another-pass-requires-clause-rule : goal.another-pass-requires-clause-rule
another-pass-requires-clause-rule g c = adds_empty _ _

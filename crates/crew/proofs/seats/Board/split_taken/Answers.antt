use Rattle.crew.proofs.Keeps.{splits_taken}
use Rattle.crew.proofs.seats.Board.split_taken.Goals as goal

pub another-pass-requires-clause-rule : goal.another-pass-requires-clause-rule
another-pass-requires-clause-rule g c = splits_taken _ _

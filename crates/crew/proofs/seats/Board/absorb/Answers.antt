use Rattle.std.proofs.Common.{ap}
use Rattle.crew.proofs.Keeps.{absorbs}
use Rattle.crew.proofs.seats.Board.absorb.Goals as goal

pub absorb-requires-clause-rule : goal.absorb-requires-clause-rule
absorb-requires-clause-rule g c =
    let is = c.theirs.invariant.1 in
    absorbs _ _ _ _ (ap (λ u. u.may_put) is) (ap (λ u. u.put) is)

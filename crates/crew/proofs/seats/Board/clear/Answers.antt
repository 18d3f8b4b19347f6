use Rattle.std.proofs.Common.{IsPermutation, sym, subst}
use Rattle.crew.specs.Rule.{PutView}
use Rattle.crew.proofs.Keeps.{clears}
use Rattle.crew.proofs.Bags.{weigh_permutation}
use Rattle.crew.proofs.seats.Board.clear.Goals as goal

pub another-requires-clause-rule : goal.another-requires-clause-rule
another-requires-clause-rule g c =
    let whole = subst (λ (v : PutView _). IsPermutation v.put v.returned) (sym c.seat.view_is) c.requires in
    clears _ _ c.seat.invariant.1 (λ h. weigh_permutation h _ _ whole)

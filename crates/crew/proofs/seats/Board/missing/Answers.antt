use Rattle.std.proofs.Common.{length, IsPermutation, ap, subst, arith}
use Rattle.std.proofs.lemmas.List.Sorted.{length_permutation}
use Rattle.crew.specs.Rule.{PutView}
use Rattle.crew.proofs.Keeps.{settles}
use Rattle.crew.proofs.Bags.{same_bag}
use Rattle.crew.proofs.seats.Board.missing.Goals as goal

pub learn_as-requires-clause-rule : goal.learn_as-requires-clause-rule
learn_as-requires-clause-rule g c = settles _ _ c.seat.invariant.1

pub returns-clause-whole : goal.returns-clause-whole
returns-clause-whole g c none =
    let is = c.seat.view_is in
    let put = ap (λ (v : PutView _). length v.put) is in
    let returned = ap (λ (v : PutView _). length v.returned) is in
    let a = c.requires.0 in
    let b = c.requires.1 in
    let below = c.learn_as.ensures.rule.1.0 in
    subst (λ (v : PutView _). IsPermutation v.put v.returned) is (same_bag g.row.T.coded _ _ (c.learn_as.ensures.rule.1.1 (omega arith)))

pub returns-clause-not_whole : goal.returns-clause-not_whole
returns-clause-not_whole g c h = let long = length_permutation _ _ h in let a = c.requires.0 in let b = c.requires.1 in omega arith

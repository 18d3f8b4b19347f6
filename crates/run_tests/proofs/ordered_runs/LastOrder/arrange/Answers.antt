use Rattle.std.proofs.Common.{◌≡◌, ℕ, List, All, IsPermutation, take, sym, subst}
use Rattle.std.proofs.lemmas.List.Elements.{All-take}
use Rattle.shards.specs.Jobs.{JobView}
use Rattle.reference.specs.Orders.{IsGiven}
use Rattle.reference.proofs.Given.{permuted-given}
use Rattle.run_tests.proofs.ordered_runs.LastOrder.arrange.Goals as goal

-- the first of some results in another order
left-given : (n : ℕ) (xs ys zs : List JobView) → IsPermutation xs ys → zs ≡ take n ys → All (IsGiven xs) zs
left-given n xs ys zs same e = subst (All (IsGiven xs)) (sym e) (All-take (IsGiven xs) n ys (permuted-given xs ys same))

pub returns-clause-may : goal.returns-clause-may
returns-clause-may c = left-given _ c.args.results.items _ _ c.reverse.ensures.permutation c.truncate.ensures.items

pub returns-clause-given : goal.returns-clause-given
returns-clause-given c = left-given _ c.args.results.items _ _ c.reverse.ensures.permutation c.truncate.ensures.items

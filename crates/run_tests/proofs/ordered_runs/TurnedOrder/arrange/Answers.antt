use Rattle.std.proofs.Common.{◌≡◌, ℕ, ◌++◌, take, drop, IsPermutation, List, sym, subst}
use Rattle.std.proofs.lemmas.List.{take-append-drop}
use Rattle.std.proofs.lemmas.List.Sorted.{IsPermutation-append_comm}
use Rattle.shards.specs.Jobs.{JobView}
use Rattle.reference.proofs.Given.{permuted-given}
use Rattle.run_tests.proofs.ordered_runs.TurnedOrder.arrange.Goals as goal

-- the first of a list put behind the others
turned : (n : ℕ) (xs ys : List JobView) → ys ≡ drop n xs ++ take n xs → IsPermutation xs ys
turned n xs ys e =
    subst (λ l. IsPermutation xs l) (sym e) (subst (λ (l : List JobView). IsPermutation l (drop n xs ++ take n xs)) (take-append-drop n xs) (IsPermutation-append_comm (take n xs) (drop n xs)))

pub returns-clause-may : goal.returns-clause-may
returns-clause-may c = turned _ c.args.results.items _ c.rotate_left.ensures.items

pub returns-clause-given : goal.returns-clause-given
returns-clause-given c = permuted-given c.args.results.items _ (turned _ c.args.results.items _ c.rotate_left.ensures.items)

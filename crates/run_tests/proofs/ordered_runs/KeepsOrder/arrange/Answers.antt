use Rattle.std.proofs.Common.{◌≡◌, List, [], All, sym, subst}
use Rattle.std.proofs.lemmas.List.Elements.{All-nil}
use Rattle.shards.specs.Jobs.{JobView}
use Rattle.reference.specs.Orders.{IsGiven}
use Rattle.run_tests.proofs.ordered_runs.KeepsOrder.arrange.Goals as goal

-- there is no other result where there is none
none-given : (xs zs : List JobView) → zs ≡ [] → All (IsGiven xs) zs
none-given xs zs e = subst (All (IsGiven xs)) (sym e) (All-nil (IsGiven xs))

pub returns-clause-given : goal.returns-clause-given
returns-clause-given c = none-given c.args.results.items _ c.new.ensures.items

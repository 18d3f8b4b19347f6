-- None of the results so far ends there.
use Rattle.std.proofs.Common.{◌≢◌, take}
use Rattle.std.specs.Prelude.{All}
use Rattle.shards.specs.Jobs.{JobView}
use Rattle.run_tests.proofs.ordered_runs.ends_at.Given as goal

abbrev pub invariant-loop-done : goal.invariant-loop-done
invariant-loop-done l = All (λ (r : JobView). r.name.until ≢ l.until) (take l.done-index l.results)

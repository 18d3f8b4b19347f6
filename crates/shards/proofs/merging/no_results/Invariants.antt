-- The places so far are empty.
use Rattle.std.proofs.Common.{◌≡◌, [], map}
use Rattle.sim_base.specs.History.{below}
use Rattle.shards.specs.Merging.{result_at}
use Rattle.shards.proofs.merging.no_results.Given as goal

abbrev pub invariant-loop : goal.invariant-loop
invariant-loop l = l.places.items ≡ map (result_at l.phase []) (below l.counter)

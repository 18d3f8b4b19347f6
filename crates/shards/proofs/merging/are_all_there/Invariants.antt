-- The places so far have results.
use Rattle.std.proofs.Common.{◌≡◌, ℕ, ◌<◌, true, get_or, None}
use Rattle.std.specs.Prelude.{is_some}
use Rattle.shards.proofs.merging.are_all_there.Given as goal

abbrev pub invariant-loop-shard : goal.invariant-loop-shard
invariant-loop-shard l = (k : ℕ) → k < l.shard → is_some (get_or l.places k None) ≡ true

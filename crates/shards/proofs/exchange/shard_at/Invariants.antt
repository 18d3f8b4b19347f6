-- The last shard so far that begins at the place or before it.
use Rattle.std.proofs.Common.{ℕ, ◌<◌, ◌≤◌, get_or}
use Rattle.shards.proofs.exchange.shard_at.Given as goal

abbrev pub invariant-loop-next : goal.invariant-loop-next
invariant-loop-next l = record {
  within : l.shard < l.next;
  since : get_or l.bounds l.shard 0 ≤ l.place;
  before : (k : ℕ) → l.shard < k → k < l.next → l.place < get_or l.bounds k 0;
}

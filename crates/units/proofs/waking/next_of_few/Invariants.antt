-- No word so far is before the cycle.
use Rattle.std.proofs.Common.{length, ◌-◌, ◌<◌, ◌≤◌, ℕ, slice_index_or}
use Rattle.units.proofs.waking.next_of_few.Given as goal

abbrev pub invariant-search : goal.invariant-search
invariant-search l = record {
  since : l.fn.from ≤ l.place;
  within : l.place ≤ length l.words;
  passed : (k : ℕ) → l.fn.from ≤ k → k < l.place → l.fn.until ≤ slice_index_or l.words k 0;
}

abbrev pub decreases-search : goal.decreases-search
decreases-search l = length l.words - l.place

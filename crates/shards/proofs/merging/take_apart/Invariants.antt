-- The results so far are taken apart.
use Rattle.std.proofs.Common.{◌≡◌, ◌++◌, length}
use Rattle.std.specs.Vec.Iter.{into_iter_items, into_iter_len}
use Rattle.shards.proofs.Placing.{there}
use Rattle.shards.proofs.TakingApart.{AreTaken}
use Rattle.shards.proofs.merging.take_apart.Given as goal

abbrev pub invariant-loop-place : goal.invariant-loop-place
invariant-loop-place l =
    (l.yielded ++ into_iter_items l.place-iterator ≡ into_iter_items l.initial.place-iterator)
    × (into_iter_len l.place-iterator ≡ length (into_iter_items l.place-iterator))
    × AreTaken l.first (there l.yielded) l.shards.items l.outbound.items

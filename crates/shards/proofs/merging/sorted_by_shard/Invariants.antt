-- The results so far are in their places, and none of them is a fault.
use Rattle.std.proofs.Common.{◌≡◌, ◌++◌, [], length, map}
use Rattle.std.specs.Vec.Iter.{into_iter_items, into_iter_len}
use Rattle.shards.specs.Merging.{first_fault, results_at}
use Rattle.shards.specs.Phases.{shard_count}
use Rattle.shards.proofs.merging.sorted_by_shard.Given as goal

abbrev pub invariant-loop-done : goal.invariant-loop-done
invariant-loop-done l =
    (l.yielded ++ into_iter_items l.done-iterator ≡ into_iter_items l.initial.done-iterator)
    × (into_iter_len l.done-iterator ≡ length (into_iter_items l.done-iterator))
    × (l.read ≡ length l.yielded)
    × (length l.places.items ≡ shard_count l.phase)
    × (l.places.items ≡ results_at l.phase (map (λ d. d.name) l.yielded))
    × (first_fault l.phase [] (map (λ d. d.name) (into_iter_items l.initial.done-iterator))
    ≡ first_fault l.phase (map (λ d. d.name) l.yielded) (map (λ d. d.name) (into_iter_items l.done-iterator)))

-- The units of the shards so far stand where the machine does, and the links hold what is in flight to them.
use Rattle.std.proofs.Common.{◌≡◌, ◌++◌, length}
use Rattle.std.specs.Arc.{arc_value}
use Rattle.std.specs.Vec.Iter.{into_iter_items, into_iter_len}
use Rattle.units.specs.Parts.{StandAt}
use Rattle.shards.specs.Lists.{bound}
use Rattle.shards.specs.Shards.{flight_to}
use Rattle.shards.proofs.split.join_all.Given as goal

abbrev pub invariant-loop-shard : goal.invariant-loop-shard
invariant-loop-shard l =
    (l.yielded ++ into_iter_items l.shard-iterator ≡ into_iter_items l.initial.shard-iterator)
    × (into_iter_len l.shard-iterator ≡ length (into_iter_items l.shard-iterator))
    × (length l.parts.items ≡ bound l.layout.bounds.items (length l.yielded))
    × StandAt (arc_value l.layout.machine) l.layout.at l.parts.items
    × (l.links ≡ flight_to (arc_value l.layout.machine) l.layout.at 0 (bound l.layout.bounds.items (length l.yielded)))

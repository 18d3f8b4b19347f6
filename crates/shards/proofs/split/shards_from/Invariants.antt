-- The shards so far are made, and the units that are left stand behind theirs.
use Rattle.std.proofs.Common.{◌≡◌, drop, length}
use Rattle.std.specs.Arc.{arc_value}
use Rattle.shards.specs.Lists.{bound}
use Rattle.shards.proofs.Splitting.{AreMade}
use Rattle.shards.proofs.split.shards_from.Given as goal

abbrev pub invariant-loop-index : goal.invariant-loop-index
invariant-loop-index l =
    (l.left.items ≡ drop (bound l.bounds l.index) l.fn.units.items)
    × (length l.shards.items ≡ l.index)
    × AreMade (arc_value l.snapshot.machine) l.bounds l.snapshot.at l.shards.items

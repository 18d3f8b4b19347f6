-- The shards so far are between phases where the machine stands; the lists of the others stand where they stood.
use Rattle.std.proofs.Common.{◌≡◌, ◌++◌, length}
use Rattle.std.specs.Arc.{arc_value}
use Rattle.std.specs.Vec.Iter.{into_iter_items, into_iter_len}
use Rattle.shards.proofs.Setting.{AreLeft}
use Rattle.shards.proofs.Splitting.{AreMade}
use Rattle.shards.proofs.planning.stopped.Given as goal

abbrev pub invariant-loop-shard : goal.invariant-loop-shard
invariant-loop-shard l = record {
  order : l.yielded ++ into_iter_items l.shard-iterator ≡ into_iter_items l.initial.shard-iterator;
  finite : into_iter_len l.shard-iterator ≡ length (into_iter_items l.shard-iterator);
  left : AreLeft (length l.yielded) l.fn.inbound.items l.inbound.items;
  count : length l.stopped.items ≡ length l.yielded;
  made : AreMade (arc_value l.layout.machine) l.layout.bounds.items l.layout.at l.stopped.items;
}

-- The shards so far have their parts; the lists of the others stand where they stood.
use Rattle.std.proofs.Common.{◌≡◌, ◌++◌, length}
use Rattle.std.specs.Prelude.{map}
use Rattle.std.specs.Vec.Iter.{into_iter_items, into_iter_len}
use Rattle.sim_base.specs.History.{below}
use Rattle.shards.specs.Phases.{job_of}
use Rattle.shards.proofs.Setting.{AreLeft}
use Rattle.shards.proofs.planning.jobs_for.Given as goal

abbrev pub invariant-loop-shard : goal.invariant-loop-shard
invariant-loop-shard l = record {
  order : l.yielded ++ into_iter_items l.shard-iterator ≡ into_iter_items l.initial.shard-iterator;
  finite : into_iter_len l.shard-iterator ≡ length (into_iter_items l.shard-iterator);
  left : AreLeft (length l.yielded) l.fn.inbound.items l.inbound.items;
  count : length l.jobs.items ≡ length l.yielded;
  jobs : l.jobs.items ≡ map (job_of l.phase) (below (length l.yielded));
}

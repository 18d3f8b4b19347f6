-- The messages so far are sorted by shard.
use Rattle.std.proofs.Common.{◌≡◌, ℕ, suc, ◌<◌, length, get_or, take}
use Rattle.std.specs.declared.vec.Vec.{Vec}
use Rattle.std.specs.declared.alloc.Global.{Global}
use Rattle.sim_base.specs.declared.message.Message.{Message}
use Rattle.units.specs.Flight.{among}
use Rattle.shards.specs.Lists.{bound}
use Rattle.shards.proofs.exchange.sort_by_shard.Given as goal

abbrev pub invariant-loop-message : goal.invariant-loop-message
invariant-loop-message l = record {
  count : length l.lists ≡ length l.fn.lists;
  each : (index : ℕ) (d : Vec Message Global) → index < length l.fn.lists
      → (get_or l.lists index d).items ≡ among l.config (bound l.bounds index) (bound l.bounds (suc index)) (take l.message-index l.sent);
}

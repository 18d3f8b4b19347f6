-- The lists so far are taken up.
use Rattle.std.proofs.Common.{◌≡◌, ℕ, ◌<◌, ◌≤◌, [], get_or, take}
use Rattle.std.specs.Prelude.{fold}
use Rattle.std.specs.declared.vec.Vec.{Vec}
use Rattle.std.specs.declared.alloc.Global.{Global}
use Rattle.sim_base.specs.declared.message.Message.{Message}
use Rattle.sim_base.specs.History.{insert_by_age}
use Rattle.shards.specs.Lists.{lists_of}
use Rattle.units.specs.Wakes.{AreEarly, AreLowered}
use Rattle.shards.proofs.shard.take_up_all.Given as goal

abbrev pub invariant-loop-list : goal.invariant-loop-list
invariant-loop-list l = record {
  left : (k : ℕ) (d : Vec Message Global) → l.list-index ≤ k → get_or l.lists k d ≡ get_or l.fn.lists k d;
  words : AreEarly l.machine.config l.first l.fn.words l.fn.links → AreLowered l.machine.config l.first (lists_of (take l.list-index l.fn.lists)) l.fn.words l.words;
  links : l.links ≡ record l.fn.links { messages = fold insert_by_age l.fn.links.messages (lists_of (take l.list-index l.fn.lists)) };
  empty : (k : ℕ) (d : Vec Message Global) → k < l.list-index → (get_or l.lists k d).items ≡ [];
}

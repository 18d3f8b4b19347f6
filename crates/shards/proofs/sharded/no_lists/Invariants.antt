-- The rows so far have `count` lists each, all of them empty.
use Rattle.std.proofs.Common.{◌≡◌, [], length}
use Rattle.std.specs.Prelude.{All}
use Rattle.sim_base.specs.declared.message.Message.{Message}
use Rattle.std.specs.declared.vec.Vec.{Vec}
use Rattle.std.specs.declared.alloc.Global.{Global}
use Rattle.shards.specs.Lists.{lists_of}
use Rattle.shards.proofs.sharded.no_lists.Given as goal

abbrev pub invariant-loop : goal.invariant-loop
invariant-loop l =
    (length l.rows.items ≡ l.counter)
    × All (λ (row : Vec (Vec Message Global) Global). (length row.items ≡ l.count) × (lists_of row.items ≡ [])) l.rows.items

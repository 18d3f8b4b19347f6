-- The list is taken out of the rows so far.
use Rattle.std.proofs.Common.{◌≡◌, ◌≢◌, ℕ, ◌<◌, ◌≤◌, length, get_or}
use Rattle.std.specs.declared.vec.Vec.{Vec}
use Rattle.std.specs.declared.alloc.Global.{Global}
use Rattle.sim_base.specs.declared.message.Message.{Message}
use Rattle.shards.proofs.exchange.column.Given as goal

abbrev pub invariant-loop-row : goal.invariant-loop-row
invariant-loop-row l = record {
  left : (i : ℕ) (d : Vec (Vec Message Global) Global) → l.row-index ≤ i → get_or l.rows i d ≡ get_or l.fn.rows i d;
  widths : (i : ℕ) (d : Vec (Vec Message Global) Global) → length (get_or l.rows i d).items ≡ length (get_or l.fn.rows i d).items;
  others : (i j : ℕ) (d : Vec (Vec Message Global) Global) (f : Vec Message Global) → j ≢ l.index
      → get_or (get_or l.rows i d).items j f ≡ get_or (get_or l.fn.rows i d).items j f;
  height : length l.column.items ≡ l.row-index;
  each : (i : ℕ) (d : Vec (Vec Message Global) Global) (f g : Vec Message Global) → i < l.row-index
      → get_or l.column.items i f ≡ get_or (get_or l.fn.rows i d).items l.index g;
}

-- The lists to the receivers so far stand in columns; the others stand in the rows as they did.
use Rattle.std.proofs.Common.{◌≡◌, ℕ, ◌<◌, ◌≤◌, length, get_or}
use Rattle.std.specs.declared.vec.Vec.{Vec}
use Rattle.std.specs.declared.alloc.Global.{Global}
use Rattle.sim_base.specs.declared.message.Message.{Message}
use Rattle.shards.proofs.exchange.by_receiver.Given as goal

abbrev pub invariant-loop-index : goal.invariant-loop-index
invariant-loop-index l = record {
  rows_count : length l.rows.items ≡ length l.fn.rows.items;
  widths : (i : ℕ) (d : Vec (Vec Message Global) Global) → length (get_or l.rows.items i d).items ≡ length (get_or l.fn.rows.items i d).items;
  left : (i j : ℕ) (d : Vec (Vec Message Global) Global) (f : Vec Message Global) → l.index ≤ j
      → get_or (get_or l.rows.items i d).items j f ≡ get_or (get_or l.fn.rows.items i d).items j f;
  count : length l.columns.items ≡ l.index;
  square : (j : ℕ) (d : Vec (Vec Message Global) Global) → j < l.index → length (get_or l.columns.items j d).items ≡ length l.fn.rows.items;
  each : (i j : ℕ) (d e : Vec (Vec Message Global) Global) (f g : Vec Message Global) → i < length l.fn.rows.items → j < l.index
      → get_or (get_or l.columns.items j d).items i f ≡ get_or (get_or l.fn.rows.items i e).items j g;
}

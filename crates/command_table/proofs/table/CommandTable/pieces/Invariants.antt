-- The pieces so far, and behind them what is left of the lists, are the table.
use Rattle.std.proofs.Common.{◌≡◌, ◌++◌, length}
use Rattle.std.specs.Prelude.{flat_map, All}
use Rattle.command_table.specs.Tables.{IsRising, table_of}
use Rattle.command_table.proofs.table.CommandTable.pieces.Given as goal

abbrev pub invariant-loop-cycle : goal.invariant-loop-cycle
invariant-loop-cycle l = record {
  table : flat_map (λ piece. piece) l.pieces.items ++ table_of l.lefts.items ≡ l.self;
  rising : All IsRising l.lefts.items;
}

abbrev pub decreases-loop-cycle : goal.decreases-loop-cycle
decreases-loop-cycle l = length (flat_map (λ rows. rows) l.lefts.items)

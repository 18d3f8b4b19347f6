-- The lists so far, without those that have no row.
use Rattle.std.proofs.Common.{◌≡◌, take}
use Rattle.std.specs.Prelude.{All}
use Rattle.command_table.specs.Tables.{IsRising, all_rows}
use Rattle.command_table.proofs.table.lefts_of.Given as goal

abbrev pub invariant-loop-list : goal.invariant-loop-list
invariant-loop-list l = record {
  rows : all_rows l.lefts.items ≡ all_rows (take l.list-index l.lists);
  rising : All IsRising l.lists → All IsRising l.lefts.items;
}

-- The two parts of the lists so far.
use Rattle.std.proofs.Common.{◌≡◌, take}
use Rattle.std.specs.Prelude.{flat_map, All}
use Rattle.command_table.specs.Tables.{IsRising, rows_up_to, rows_after}
use Rattle.command_table.proofs.cuts.parts_of.Given as goal

abbrev pub invariant-loop-left : goal.invariant-loop-left
invariant-loop-left l = record {
  before : flat_map (λ rows. rows) l.before.items ≡ rows_up_to l.cycle (flat_map (λ rows. rows) (take l.left-index l.lefts));
  behind : flat_map (λ rows. rows) l.behind.items ≡ rows_after l.cycle (flat_map (λ rows. rows) (take l.left-index l.lefts));
  rising_before : All IsRising l.before.items;
  rising_behind : All IsRising l.behind.items;
}

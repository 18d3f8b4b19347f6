-- The list holds the rows so far.
use Rattle.std.proofs.Common.{◌≡◌, take}
use Rattle.command_table.proofs.table.list_of.Given as goal

abbrev pub invariant-loop-row : goal.invariant-loop-row
invariant-loop-row l = l.list ≡ take l.row-index l.rows

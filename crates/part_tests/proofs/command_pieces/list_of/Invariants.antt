-- The commands so far rise, and are of earlier cycles.
use Rattle.std.proofs.Common.{◌<◌}
use Rattle.std.specs.List.{All}
use Rattle.command_table.specs.Tables.{IsRising}
use Rattle.part_tests.proofs.command_pieces.list_of.Given as goal

abbrev pub invariant-loop-cycle : goal.invariant-loop-cycle
invariant-loop-cycle l = IsRising l.list × All (λ row. row.cycle < l.cycle) l.list

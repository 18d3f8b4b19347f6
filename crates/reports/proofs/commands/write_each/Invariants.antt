-- Unless a row was lost, what was written or waits are the rows that came. Those that are left follow them.
use Rattle.std.proofs.Common.{◌≡◌, List, ◌++◌, length}
use Rattle.sim_base.specs.declared.command.IssuedCommand.{IssuedCommand}
use Rattle.reports.specs.Commands.{lines_text}
use Rattle.reports.specs.Tables.{AddsRows}
use Rattle.reports.proofs.commands.write_each.Given as goal

abbrev pub invariant-loop-row : goal.invariant-loop-row
invariant-loop-row g l =
    (came : List IssuedCommand) × (came ++ l.rows ≡ l.fn.rows)
    × AddsRows g.W.Write.contents l.fn.writer l.fn.table l.writer l.table (lines_text l.ranks came)

abbrev pub decreases-loop-row : goal.decreases-loop-row
decreases-loop-row g l = length l.rows

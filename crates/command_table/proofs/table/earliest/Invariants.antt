-- Of the lists so far, the one that goes on earliest.
use Rattle.command_table.specs.Lefts.{IsNextOf}
use Rattle.command_table.proofs.table.earliest.Given as goal

abbrev pub invariant-loop-place : goal.invariant-loop-place
invariant-loop-place l = IsNextOf l.lefts l.place l.found l.least

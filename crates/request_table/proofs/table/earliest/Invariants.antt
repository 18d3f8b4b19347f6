-- Of the lists so far, the one that goes on earliest.
use Rattle.request_table.specs.Lefts.{IsNextAmong}
use Rattle.request_table.proofs.table.earliest.Given as goal

abbrev pub invariant-loop-place : goal.invariant-loop-place
invariant-loop-place l = IsNextAmong l.lefts l.place l.found

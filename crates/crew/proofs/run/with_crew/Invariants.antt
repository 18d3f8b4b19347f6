-- The board gets the name that it has.
use Rattle.crew.proofs.run.with_crew.Given as goal

abbrev pub ghosts-run_named : goal.ghosts-run_named
ghosts-run_named g a = record { table = a.blank.name }

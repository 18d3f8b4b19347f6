-- The laws, as they are proved.
use Rattle.run_tables.proofs.CommandsBack.{well_formed-read, written-read, run-read}
use Rattle.run_tables.proofs.read_back.commands_are_read_back.Goals as goal

pub returns-clause-written : goal.returns-clause-written
returns-clause-written c = written-read

pub returns-clause-run : goal.returns-clause-run
returns-clause-run c = run-read

pub returns-clause-well_formed : goal.returns-clause-well_formed
returns-clause-well_formed c = well_formed-read

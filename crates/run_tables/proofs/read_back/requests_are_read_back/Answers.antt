-- The laws, as they are proved.
use Rattle.run_tables.proofs.RequestsBack.{requests-read, run-requests}
use Rattle.run_tables.proofs.read_back.requests_are_read_back.Goals as goal

pub returns-clause-written : goal.returns-clause-written
returns-clause-written c = requests-read

pub returns-clause-run : goal.returns-clause-run
returns-clause-run c = run-requests

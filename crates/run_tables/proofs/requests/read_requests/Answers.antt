-- What is read of a table is what it is of.
use Rattle.rule_check.specs.Verdict.{records_of}
use Rattle.run_tables.proofs.ReadRequests.{inverse}
use Rattle.run_tables.proofs.requests.read_requests.Goals as goal

pub returns-clause-inverse : goal.returns-clause-inverse
returns-clause-inverse c rows table = inverse (records_of c.args.table.now) rows (λ found. found.items) c.read_rows.result c.read_rows.ensures.read c.read_rows.ensures.refused table

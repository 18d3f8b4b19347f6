-- A table that is legal has nothing at fault.
use Rattle.rule_check.proofs.Legals.{legal_if_ok}
use Rattle.rule_check.proofs.table.check.Goals as goal

pub returns-clause-legal : goal.returns-clause-legal
returns-clause-legal c = legal_if_ok _ _ c.check_records.result c.check_records.ensures.ok

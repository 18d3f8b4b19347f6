use Rattle.reports.specs.Requests.{request_header}
use Rattle.reports.proofs.RowLemmas.{line-row}
use Rattle.reports.proofs.requests.RequestLinesTableLinesRows.columns.Goals as goal

pub returns-clause-names : goal.returns-clause-names
returns-clause-names c = line-row request_header

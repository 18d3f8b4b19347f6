use Rattle.reports.specs.Requests.{request_fields}
use Rattle.reports.proofs.RowLemmas.{line-row}
use Rattle.reports.proofs.requests.write_request.Goals as goal

pub returns : goal.returns
returns g c =
    rw (c.put-start-3.ensures.text, c.from-2.ensures, c.put-start-2.ensures.text, c.put_access-start.ensures.text, c.put-start.ensures.text, c.from.ensures, c.put_times-start.ensures.text, line-row (request_fields c.args.row.now)) at c.write_row.ensures

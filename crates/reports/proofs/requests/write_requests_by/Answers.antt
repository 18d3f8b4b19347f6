use Rattle.reports.proofs.PieceLemmas.{lines-joined}
use Rattle.reports.specs.Requests.{request_fields}
use Rattle.reports.proofs.TableLemmas.{requests_text-parts}
use Rattle.reports.proofs.requests.write_requests_by.Goals as goal

pub returns-clause-written : goal.returns-clause-written
returns-clause-written g c =
    rw (c.deref.ensures.value, lines-joined request_fields, c.in_ok-pieces.ensures, ← requests_text-parts) at c.write_pieces.ensures.written

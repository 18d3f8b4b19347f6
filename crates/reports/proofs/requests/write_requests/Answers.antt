use Rattle.reports.proofs.TableLemmas.{requests_text-parts}
use Rattle.reports.proofs.requests.write_requests.Goals as goal

pub returns-clause-written : goal.returns-clause-written
returns-clause-written g c = rw (c.in_ok-rows.ensures, ← requests_text-parts) at c.write_whole.ensures.written

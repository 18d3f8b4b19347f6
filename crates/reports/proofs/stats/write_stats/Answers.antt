use Rattle.reports.proofs.RowLemmas.{held-sent}
use Rattle.reports.proofs.stats.write_stats.Goals as goal

pub returns-clause-written : goal.returns-clause-written
returns-clause-written g c = held-sent _ _ _ _ _ _ c.new-table.ensures c.write_rows.ensures c.finish.ensures.written

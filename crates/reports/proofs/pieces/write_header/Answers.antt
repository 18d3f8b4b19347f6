use Rattle.reports.proofs.RowLemmas.{held-sent}
use Rattle.reports.proofs.pieces.write_header.Goals as goal

pub returns-clause-written : goal.returns-clause-written
returns-clause-written g c =
    let names = rw c.columns.ensures.names at c.write_text.ensures in
    held-sent _ _ _ _ _ _ c.new-table.ensures names c.finish.ensures.written

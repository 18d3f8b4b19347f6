use Rattle.reports.proofs.RowLemmas.{added-more, held-sent}
use Rattle.reports.proofs.pieces.write_whole.Goals as goal

pub returns-clause-written : goal.returns-clause-written
returns-clause-written g c =
    let names = rw c.columns.ensures.names at c.write_text.ensures in
    let all = added-more _ _ _ _ _ names c.write_lines.ensures in
    held-sent _ _ _ _ _ _ c.new-table.ensures all c.finish.ensures.written

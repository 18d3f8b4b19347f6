use Rattle.std.proofs.Common.{◌++◌, Some}
use Rattle.reports.specs.Tables.{waiting}
use Rattle.reports.proofs.RowLemmas.{held-sent}
use Rattle.reports.proofs.pieces.text_of.Goals as goal

pub returns : goal.returns
returns g c =
    let mid = c.write_lines.new.writer.items ++ waiting c.write_lines.new.table in
    let written = held-sent c.finish.result (Some c.new-text.result.items) (Some mid) (Some c.finish.new.writer.items) (waiting c.new-table.result) (g.T.TableLines.lines c.args.of.now c.args.piece.now) c.new-table.ensures c.write_lines.ensures c.finish.ensures.written in
    rw (c.in_ok-finish.was {u = tt}, c.new-text.ensures.items) at written

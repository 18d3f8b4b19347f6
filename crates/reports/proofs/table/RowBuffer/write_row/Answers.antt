use Rattle.std.proofs.Common.{◌++◌, drop, codes}
use Rattle.csv.specs.Writing.{writer_under, writer_pending}
use Rattle.reports.proofs.RowLemmas.{row-added}
use Rattle.reports.proofs.table.RowBuffer.write_row.Goals as goal

pub returns : goal.returns
returns g c =
    let table = c.make_room.new.self in
    let front = (writer_under table.rows).items ++ writer_pending table.rows in
    rw (c.push.ensures, c.text_from.ensures.text, c.make_room.ensures.line) (row-added _ _ front table.block (drop c.args.start c.args.self.now.line ++ codes "\n") c.make_room.ensures.kept)

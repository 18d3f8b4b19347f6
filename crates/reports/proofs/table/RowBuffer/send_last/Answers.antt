use Rattle.std.proofs.Common.{◌++◌}
use Rattle.csv.specs.Writing.{writer_under, writer_pending}
use Rattle.reports.specs.Tables.{waiting}
use Rattle.reports.proofs.RowLemmas.{emptied, held-out, whole-sent}
use Rattle.reports.proofs.table.RowBuffer.send_last.Goals as goal

pub returns : goal.returns
returns g c =
    let table = c.close.new.self in
    let front = (writer_under table.rows).items ++ writer_pending table.rows in
    let waits = waiting c.args.self in
    let empty = emptied front table.block waits c.in_ok-close.ensures.empty c.in_ok-close.ensures.waiting in
    whole-sent c.write_out.result _ _ c.in_ok-close.ensures.whole (held-out c.write_out.result _ _ front waits empty c.write_out.ensures.written)

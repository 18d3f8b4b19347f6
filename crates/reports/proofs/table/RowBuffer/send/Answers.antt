use Rattle.std.proofs.Common.{◌≡◌, [], ◌++◌, refl}
use Rattle.csv.specs.Writing.{writer_under, writer_pending}
use Rattle.reports.specs.Tables.{waiting}
use Rattle.reports.proofs.RowLemmas.{emptied, held-out, held-none}
use Rattle.reports.proofs.table.RowBuffer.send.Goals as goal

pub returns-clause-written : goal.returns-clause-written
returns-clause-written g c =
    let table = c.put_block.new.self in
    let front = (writer_under table.rows).items ++ writer_pending table.rows in
    let waits = waiting c.args.self.now in
    let fresh = c.replace-full.new.dest in
    let rest = (writer_under fresh).items ++ writer_pending fresh ++ table.block in
    let none : rest ≡ [] = rw (c.replace-full.ensures.after, c.rows_after.ensures.under, c.replace-spare.ensures.value, c.reserve-room.ensures.items, table.empty, c.rows_after.ensures.pending, c.in_ok-put_block.ensures.empty) refl in
    let wrote = rw c.replace-full.ensures.value at c.write_out.ensures.written in
    held-none c.write_out.result _ _ rest none (held-out c.write_out.result _ _ front waits (emptied front table.block waits c.in_ok-put_block.ensures.empty c.in_ok-put_block.ensures.waiting) wrote)

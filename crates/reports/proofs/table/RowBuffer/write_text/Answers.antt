use Rattle.std.proofs.Common.{◌≡◌, length, arith}
use Rattle.reports.proofs.LineLemmas.{last_field}
use Rattle.reports.proofs.table.RowBuffer.write_text.Goals as goal

pub returns : goal.returns
returns g c =
    let size : length c.args.self.now.line ≡ 256 = omega arith in
    rw (last_field _ c.args.text.now c.args.self.now.line size c.put_bytes-start.ensures.text) at c.write_row.ensures

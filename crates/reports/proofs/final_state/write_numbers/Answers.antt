use Rattle.std.proofs.Common.{◌≡◌, drop, rules}
use Rattle.reports.specs.Final.{final_fields}
use Rattle.reports.specs.Rows.{fields_text}
use Rattle.reports.proofs.RowLemmas.{line-row}
use Rattle.reports.proofs.final_state.write_numbers.Goals as goal

pub returns : goal.returns
returns g c =
    let text : drop c.put_word-start.result c.put_word-start.new.line ≡ fields_text (final_fields c.args.ranks c.args.item.now c.args.numbers.now) = search rules in
    rw (text, line-row) at c.write_row.ensures

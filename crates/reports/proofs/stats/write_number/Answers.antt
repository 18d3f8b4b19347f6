use Rattle.reports.specs.Stats.{value_fields}
use Rattle.reports.proofs.RowLemmas.{line-row}
use Rattle.reports.proofs.stats.write_number.Goals as goal

pub returns : goal.returns
returns g c =
    let row = value_fields c.args.unit.scope.now c.args.unit.id (c.args.counter.name.now, c.args.number) in
    rw (c.put_word-start-2.ensures.text, c.put-start.ensures.text, c.put_word-start.ensures.text, c.put_last_wide-start.ensures.text, line-row row) at c.write_row.ensures

-- The number of one column more.
use Rattle.std.proofs.Common.{◌∙◌, arith}
use Rattle.std.proofs.lemmas.List.{length-set}
use Rattle.show.proofs.Across.{across_more}
use Rattle.show.proofs.rows.row_across.Goals as goal

pub loop-column-preserved : goal.loop-column-preserved
loop-column-preserved c =
    let three = c.told-columns c.loop-column.column (omega (arith, c.loop-column-test.true, c.requires.count)) in
    record {
      count = length-set c.loop-column.row c.loop-column.column _ ∙ c.loop-column.invariant.count;
      numbers = across_more c.args.columns.now c.args.place c.loop-column.column c.loop-column.row _ (omega (arith, c.loop-column-test.true, c.loop-column.invariant.count))
          (omega (arith, three, c.requires.place)) c.loop-column.invariant.numbers;
    }

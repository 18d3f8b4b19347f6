-- A table has few records.
use Rattle.std.proofs.Common.{length, ap, arith}
use Rattle.rule_check.proofs.Left.{few_records}
use Rattle.rule_check.proofs.table.check_records.Goals as goal

pub check_left-requires-clause-few : goal.check_left-requires-clause-few
check_left-requires-clause-few c =
    let few = few_records c.args.table.now in
    let size = ap length c.open-reader.ensures.left in
    omega (arith, few, size)

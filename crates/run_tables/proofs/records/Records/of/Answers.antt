-- A table has few records.
use Rattle.std.proofs.Common.{◌<◌, ◌^◌, length, ap, arith}
use Rattle.csv.specs.Records.{fields_of}
use Rattle.rule_check.specs.Left.{left_of}
use Rattle.rule_check.proofs.Left.{few_records}
use Rattle.run_tables.proofs.Standing.{stands_at_start}
use Rattle.run_tables.proofs.records.Records.of.Goals as goal

pub invariant_of-result : goal.invariant_of-result
invariant_of-result c =
    let short = few_records c.args.table.now in
    let size = ap length c.open-reader.ensures.left in
    let few : length (left_of c.open-reader.result) < 2 ^ 64 = omega (arith, short, size) in
    stands_at_start c.open-reader.result c.read_next.new.reader c.in_ok-found.found (fields_of c.read_next.new.row) (c.in_ok-found.ensures.takes) few

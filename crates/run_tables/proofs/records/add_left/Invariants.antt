-- The records so far, and behind them those that are left, are what they were.
use Rattle.std.proofs.Common.{◌≡◌, ◌++◌, length, map}
use Rattle.csv.specs.Records.{fields_of}
use Rattle.run_tables.proofs.records.add_left.Given as goal

abbrev pub invariant-loop-left : goal.invariant-loop-left
invariant-loop-left l = map fields_of l.fn.records.items ++ l.fn.left.records ≡ map fields_of l.records.items ++ l.left.records

abbrev pub decreases-loop-left : goal.decreases-loop-left
decreases-loop-left l = length l.left.records

-- The cores so far are read.
use Rattle.std.proofs.Common.{◌-◌, length}
use Rattle.run_tables.specs.Units.{SomeCores}
use Rattle.run_tables.proofs.stats.read_cores.Given as goal

abbrev pub invariant-loop-cores : goal.invariant-loop-cores
invariant-loop-cores l = SomeCores l.fn.table l.cores.items l.row

abbrev pub decreases-loop-cores : goal.decreases-loop-cores
decreases-loop-cores l = length l.fn.table - l.row

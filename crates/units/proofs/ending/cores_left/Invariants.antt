-- The cores so far have theirs.
use Rattle.std.proofs.Common.{◌≡◌, map}
use Rattle.sim_base.specs.History.{below}
use Rattle.sim_base.specs.Machine.{run}
use Rattle.statistics.specs.Runs.{final_of_core}
use Rattle.units.proofs.ending.cores_left.Given as goal

abbrev pub invariant-loop-core : goal.invariant-loop-core
invariant-loop-core l =
    l.left.items ≡ map (final_of_core l.machine.config l.machine.traces.items (run l.machine.config l.machine.traces.items l.now)) (below l.core)

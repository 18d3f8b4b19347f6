-- The cores so far have theirs.
use Rattle.std.proofs.Common.{◌≡◌, map}
use Rattle.sim_base.specs.History.{below}
use Rattle.one_clock.specs.Cycles.{core_left_before}
use Rattle.one_clock.proofs.ending.cores_left.Given as goal

abbrev pub invariant-loop-core : goal.invariant-loop-core
invariant-loop-core l = l.left.items ≡ map (core_left_before l.cycle) (below l.core)

-- The cores that are done have theirs.
use Rattle.std.proofs.Common.{◌≡◌, map}
use Rattle.sim_base.specs.History.{below}
use Rattle.one_clock.specs.Cycles.{core_stop_in}
use Rattle.one_clock.proofs.machine.next_steps_of_cores.Given as goal

abbrev pub invariant-loop-core : goal.invariant-loop-core
invariant-loop-core l = l.steps.items ≡ map (core_stop_in l.cycle) (below l.core)

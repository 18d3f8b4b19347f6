-- The cores that are there have no past.
use Rattle.std.proofs.Common.{◌≡◌, map}
use Rattle.sim_base.specs.History.{below}
use Rattle.one_clock.specs.Cycles.{core_before}
use Rattle.one_clock.proofs.machine.start_cores.Given as goal

abbrev pub invariant-loop-core : goal.invariant-loop-core
invariant-loop-core l = l.cores.items ≡ map (core_before l.cycle) (below l.core)

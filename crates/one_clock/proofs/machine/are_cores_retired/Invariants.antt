-- All the cores that are done are so.
use Rattle.std.proofs.Common.{◌≡◌}
use Rattle.std.specs.List.{list_all}
use Rattle.sim_base.specs.History.{below}
use Rattle.one_clock.specs.Ends.{is_core_retired_before}
use Rattle.one_clock.proofs.machine.are_cores_retired.Given as goal

abbrev pub invariant-loop-core : goal.invariant-loop-core
invariant-loop-core l = l.all ≡ list_all (is_core_retired_before l.cycle) (below l.core)

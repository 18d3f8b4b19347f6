-- The cores so far have theirs.
use Rattle.std.proofs.Common.{◌≡◌, map}
use Rattle.sim_base.specs.History.{below}
use Rattle.one_clock.specs.Cycles.{core_stats_before}
use Rattle.one_clock.proofs.tally.no_core_counts.Given as goal

abbrev pub invariant-loop-core : goal.invariant-loop-core
invariant-loop-core l = l.counts.items ≡ map (core_stats_before l.cycle) (below l.core)

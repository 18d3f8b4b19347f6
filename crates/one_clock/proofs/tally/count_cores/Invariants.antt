-- The cores that are done have counted the cycle.
use Rattle.std.proofs.Common.{◌≡◌}
use Rattle.one_clock.proofs.Units.{halfway}
use Rattle.one_clock.specs.Cycles.{core_stats_before, core_stats_after}
use Rattle.one_clock.proofs.tally.count_cores.Given as goal

abbrev pub invariant-loop-core : goal.invariant-loop-core
invariant-loop-core l = l.counts.items ≡ halfway (core_stats_after l.cycle) (core_stats_before l.cycle) l.cycle.config.now.cores l.core

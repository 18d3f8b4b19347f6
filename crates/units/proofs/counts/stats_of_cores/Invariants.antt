-- The cores so far have theirs.
use Rattle.std.proofs.Common.{◌≡◌, ℕ, map}
use Rattle.sim_base.specs.History.{below}
use Rattle.units.specs.Parts.{StandAt}
use Rattle.units.specs.Runs.{core_stats_at}
use Rattle.units.proofs.counts.stats_of_cores.Given as goal

abbrev pub invariant-loop-core : goal.invariant-loop-core
invariant-loop-core l =
    (now : ℕ) → StandAt l.machine now l.parts → l.stats.items ≡ map (core_stats_at l.machine now) (below l.core)

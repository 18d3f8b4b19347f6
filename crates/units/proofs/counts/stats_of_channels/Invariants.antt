-- The channels so far have theirs.
use Rattle.std.proofs.Common.{◌≡◌, ℕ, map}
use Rattle.sim_base.specs.History.{below}
use Rattle.units.specs.Parts.{StandAt}
use Rattle.units.specs.Runs.{channel_stats_at}
use Rattle.units.proofs.counts.stats_of_channels.Given as goal

abbrev pub invariant-loop-channel : goal.invariant-loop-channel
invariant-loop-channel l =
    (now : ℕ) → StandAt l.machine now l.parts → l.stats.items ≡ map (channel_stats_at l.machine now) (below l.channel)

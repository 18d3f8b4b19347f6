-- The channels so far have theirs.
use Rattle.std.proofs.Common.{◌≡◌, map}
use Rattle.sim_base.specs.History.{below}
use Rattle.one_clock.specs.Cycles.{channel_stats_before}
use Rattle.one_clock.proofs.tally.no_channel_counts.Given as goal

abbrev pub invariant-loop-channel : goal.invariant-loop-channel
invariant-loop-channel l = l.counts.items ≡ map (channel_stats_before l.cycle) (below l.channel)

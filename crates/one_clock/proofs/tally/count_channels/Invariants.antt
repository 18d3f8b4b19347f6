-- The channels that are done have counted the cycle.
use Rattle.std.proofs.Common.{◌≡◌}
use Rattle.one_clock.proofs.Units.{halfway}
use Rattle.one_clock.specs.Cycles.{channel_stats_before, channel_stats_after}
use Rattle.one_clock.proofs.tally.count_channels.Given as goal

abbrev pub invariant-loop-channel : goal.invariant-loop-channel
invariant-loop-channel l = l.counts.items ≡ halfway (channel_stats_after l.cycle) (channel_stats_before l.cycle) l.cycle.config.now.channels l.channel

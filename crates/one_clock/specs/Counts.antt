-- What one cycle counts.
--     channel_counts s history now queued step      the statistics of a cycle of a channel
--     no_channel_counts s      the statistics of a channel in no cycle
use Rattle.std.specs.Prelude.{ℕ, is_some, List}
use Rattle.sim_base.specs.Scheduling.{lowest_due}
use Rattle.sim_base.specs.declared.command.IssuedCommand.{IssuedCommand}
use Rattle.sim_base.specs.declared.config.Config.{Config}
use Rattle.statistics.specs.Channels.{channel_none, draining_of, channel_cycle_with}
use Rattle.statistics.specs.declared.channels.ChannelStats.{ChannelStats}
use Rattle.plain_steps.specs.declared.scheduling.ChannelStep.{ChannelStep}

-- the statistics of the cycle `now` of a channel that issued these commands before, has this many requests queued,
-- and does this
abbrev pub channel_counts : Config → List IssuedCommand → ℕ → ℕ → ChannelStep → ChannelStats
channel_counts s history now queued step =
    channel_cycle_with s history queued (is_some (lowest_due s history now)) step.draining step.command

-- the statistics of a channel in no cycle: drained cycles are counted only where the configuration has a drain
abbrev pub no_channel_counts : Config → ChannelStats
no_channel_counts s = record channel_none { draining = draining_of s 0 }

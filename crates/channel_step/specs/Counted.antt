-- The statistics of one cycle, where it is known whether its command is a row hit.
--     cycle_with_hit s queued has_due drains o hit      the statistics of a cycle in which a channel does this
use Rattle.std.specs.Prelude.{ℕ, ◌==◌, Bool, Option}
use Rattle.sim_base.specs.declared.config.Config.{Config}
use Rattle.sim_base.specs.declared.command.Command.{Command}
use Rattle.sim_base.specs.declared.command.Kind.TheVariants as kind
use Rattle.sim_base.specs.Counts.{one_if}
use Rattle.statistics.specs.Channels.{issues, draining_of}
use Rattle.statistics.specs.declared.channels.ChannelStats.{ChannelStats}

-- the statistics of a cycle with a queue of this length, in which a refresh is due or not, the channel drains its
-- writes or not, and does this, which is a row hit or not
abbrev pub cycle_with_hit : Config → ℕ → Bool → Bool → Option Command → Bool → ChannelStats
cycle_with_hit s queued has_due drains o hit =
    record {
      act = one_if (issues kind.Act o);
      rd = one_if (issues kind.Rd o);
      wr = one_if (issues kind.Wr o);
      pre = one_if (issues kind.Pre o);
      prea = one_if (issues kind.Prea o);
      refs = one_if (issues kind.Ref o);
      hits = one_if hit;
      queued = queued;
      queued_max = queued;
      idle = one_if (queued == 0);
      refreshing = one_if has_due;
      draining = draining_of s (one_if drains);
    }

-- Statistics of a channel, over the steps of its run, one a cycle, and its inbox.
--     channel_stats s channel steps inbox      of all the cycles of these steps
--     channel_cycle s channel steps inbox o      of the one cycle after these steps, in which the channel does this
--     channel_none      of no cycle
--     channel_joined a b      of two stretches of cycles, the first and what follows it
--     channel_times n a      of n cycles that are each like this one
--     cycle_without_command drained queued has_due drains      of a cycle in which nothing is issued
--     one_command k hit      of a command alone
--     channel_counters, channel_numbers channel      its counters in `stats.csv`, and their numbers
--     channel_of numbers draining      the statistics that have these numbers
--     ChannelFits a      each count fits
use Rattle.std.specs.Prelude.{ℕ, ◌+◌, ◌*◌, ◌^◌, ◌<◌, ◌==◌, nat_lt, max, Bool, false, List, [], ◌∷◌, length, codes, option_map, Option, Some, None, if◌then◌else◌}
use Rattle.std.specs.List.{list_any}
use Rattle.std.specs.Option.{IfSome}
use Rattle.sim_base.specs.declared.config.Config.{Config}
use Rattle.sim_base.specs.Counts.{issued_of_kind, is_hit, hits, queue_length, queued, queued_max, idle, has_refresh_due, refreshing, draining, one_if}
use Rattle.sim_base.specs.History.{issued_commands}
use Rattle.sim_base.specs.Rules.{is_kind, kind_of}
use Rattle.sim_base.specs.Scheduling.{drains, is_column_command_of}
use Rattle.sim_base.specs.declared.command.Kind.{Kind}
use Rattle.sim_base.specs.declared.command.Kind.TheVariants as kind
use Rattle.sim_base.specs.declared.command.Command.{Command}
use Rattle.sim_base.specs.declared.command.Command.TheVariants.{Act, Rd, Wr, Pre, Prea, Ref}
use Rattle.sim_base.specs.declared.command.IssuedCommand.{IssuedCommand}
use Rattle.sim_base.specs.declared.message.Message.{Message}
use Rattle.statistics.specs.declared.channels.ChannelStats.{ChannelStats}
use Rattle.statistics.specs.Counters.{number_or_zero}
use Rattle.statistics.specs.declared.counters.CounterKind.{CounterKind}
use Rattle.statistics.specs.declared.counters.CounterKind.TheVariants.{Count, Sum}
use Rattle.statistics.specs.Counts.{sum_of_counts}

-- a count of cycles of draining: there is none where the channel never drains
abbrev pub draining_of : Config → ℕ → Option ℕ
draining_of s n = if nat_lt 0 s.write_high then Some n else None

-- the statistics of all the cycles of these steps
unfoldable pub channel_stats : Config → ℕ → List (Option Command) → List Message → ChannelStats
channel_stats s channel steps inbox =
    let history = issued_commands channel steps in
    record {
      act = issued_of_kind kind.Act history;
      rd = issued_of_kind kind.Rd history;
      wr = issued_of_kind kind.Wr history;
      pre = issued_of_kind kind.Pre history;
      prea = issued_of_kind kind.Prea history;
      refs = issued_of_kind kind.Ref history;
      hits = hits history;
      queued = queued channel steps inbox;
      queued_max = queued_max channel steps inbox;
      idle = idle channel steps inbox;
      refreshing = refreshing s channel steps;
      draining = draining_of s (draining s channel steps inbox);
    }

-- the channel issues a command of this kind
abbrev pub issues : Kind → Option Command → Bool
issues kind None = false
issues kind (Some command) = is_kind (kind_of command) kind

-- the channel issues a column command for a request that no ACT was issued for
abbrev pub issues_hit : List IssuedCommand → Option Command → Bool
issues_hit history None = false
issues_hit history (Some command) = is_hit history command

-- the statistics of a cycle with a queue of this length, in which a refresh is due or not, the channel drains its
-- writes or not, and does this
unfoldable pub channel_cycle_with : Config → List IssuedCommand → ℕ → Bool → Bool → Option Command → ChannelStats
channel_cycle_with s history queued has_due drains o =
    record {
      act = one_if (issues kind.Act o);
      rd = one_if (issues kind.Rd o);
      wr = one_if (issues kind.Wr o);
      pre = one_if (issues kind.Pre o);
      prea = one_if (issues kind.Prea o);
      refs = one_if (issues kind.Ref o);
      hits = one_if (issues_hit history o);
      queued = queued;
      queued_max = queued;
      idle = one_if (queued == 0);
      refreshing = one_if has_due;
      draining = draining_of s (one_if drains);
    }

-- the statistics of the cycle after these steps, in which the channel does this
unfoldable pub channel_cycle : Config → ℕ → List (Option Command) → List Message → Option Command → ChannelStats
channel_cycle s channel steps inbox o =
    channel_cycle_with s (issued_commands channel steps) (queue_length channel steps inbox (length steps))
    (has_refresh_due s channel steps (length steps))
    (drains s channel steps inbox (length steps)) o

-- the statistics of no cycle
abbrev pub channel_none : ChannelStats
channel_none =
    record {
      act = 0;
      rd = 0;
      wr = 0;
      pre = 0;
      prea = 0;
      refs = 0;
      hits = 0;
      queued = 0;
      queued_max = 0;
      idle = 0;
      refreshing = 0;
      draining = None;
    }

-- the statistics of two stretches of cycles: each count is the sum of both, and the greatest length of the queue the
-- greater
abbrev pub channel_joined : ChannelStats → ChannelStats → ChannelStats
channel_joined a b =
    record {
      act = a.act + b.act;
      rd = a.rd + b.rd;
      wr = a.wr + b.wr;
      pre = a.pre + b.pre;
      prea = a.prea + b.prea;
      refs = a.refs + b.refs;
      hits = a.hits + b.hits;
      queued = a.queued + b.queued;
      queued_max = max a.queued_max b.queued_max;
      idle = a.idle + b.idle;
      refreshing = a.refreshing + b.refreshing;
      draining = sum_of_counts a.draining b.draining;
    }

-- the statistics of n cycles that are each like this one: each count is n times as great, except for the greatest
-- length of the queue
abbrev pub channel_times : ℕ → ChannelStats → ChannelStats
channel_times n a =
    record {
      act = n * a.act;
      rd = n * a.rd;
      wr = n * a.wr;
      pre = n * a.pre;
      prea = n * a.prea;
      refs = n * a.refs;
      hits = n * a.hits;
      queued = n * a.queued;
      queued_max = if n == 0 then 0 else a.queued_max;
      idle = n * a.idle;
      refreshing = n * a.refreshing;
      draining = if n == 0 then None else option_map (λ count. n * count) a.draining;
    }

-- the statistics of a cycle with a queue of this length, in which a refresh is due or not, the channel drains its
-- writes or not, and nothing is issued; cycles of draining are counted where there is such a count
abbrev pub cycle_without_command : Option ℕ → ℕ → Bool → Bool → ChannelStats
cycle_without_command drained queued has_due drains =
    record channel_none {
      queued = queued;
      queued_max = queued;
      idle = one_if (queued == 0);
      refreshing = one_if has_due;
      draining = option_map (λ count. one_if drains) drained;
    }

-- the statistics of a command of this kind, which is counted as a hit or not, without its cycle
abbrev pub one_command : Kind → Bool → ChannelStats
one_command k hit =
    record channel_none {
      act = one_if (is_kind k kind.Act);
      rd = one_if (is_kind k kind.Rd);
      wr = one_if (is_kind k kind.Wr);
      pre = one_if (is_kind k kind.Pre);
      prea = one_if (is_kind k kind.Prea);
      refs = one_if (is_kind k kind.Ref);
      hits = one_if hit;
    }

-- each count fits: it is below 2^64, and the sum of the queue's lengths below 2^128
pub record ChannelFits (a : ChannelStats) : Type 0 where
  pub act : a.act < 2 ^ 64
  pub rd : a.rd < 2 ^ 64
  pub wr : a.wr < 2 ^ 64
  pub pre : a.pre < 2 ^ 64
  pub prea : a.prea < 2 ^ 64
  pub refs : a.refs < 2 ^ 64
  pub hits : a.hits < 2 ^ 64
  pub queued : a.queued < 2 ^ 128
  pub queued_max : a.queued_max < 2 ^ 64
  pub idle : a.idle < 2 ^ 64
  pub refreshing : a.refreshing < 2 ^ 64
  pub draining : IfSome a.draining (λ count. count < 2 ^ 64)

-- the counters of a channel, in the order of its rows; the count of draining, which a channel may lack, is none of them
abbrev pub channel_counters : List (List ℕ × CounterKind)
channel_counters =
    (codes "act", Count)
    ∷ (codes "rd", Count)
    ∷ (codes "wr", Count)
    ∷ (codes "pre", Count)
    ∷ (codes "prea", Count)
    ∷ (codes "ref", Count)
    ∷ (codes "hits", Count)
    ∷ (codes "queued", Sum)
    ∷ (codes "queued_max", Count)
    ∷ (codes "idle", Count)
    ∷ (codes "refreshing", Count)
    ∷ []

-- their numbers
abbrev pub channel_numbers : ChannelStats → List (Option ℕ)
channel_numbers channel =
    Some channel.act ∷ Some channel.rd ∷ Some channel.wr ∷ Some channel.pre ∷ Some channel.prea ∷ Some channel.refs
    ∷ Some channel.hits ∷ Some channel.queued ∷ Some channel.queued_max ∷ Some channel.idle ∷ Some channel.refreshing
    ∷ []

-- the statistics of a channel that has these numbers, and drained its writes in so many cycles, if it counts them
abbrev pub channel_of : List (Option ℕ) → Option ℕ → ChannelStats
channel_of numbers draining =
    record {
      act = number_or_zero numbers 0;
      rd = number_or_zero numbers 1;
      wr = number_or_zero numbers 2;
      pre = number_or_zero numbers 3;
      prea = number_or_zero numbers 4;
      refs = number_or_zero numbers 5;
      hits = number_or_zero numbers 6;
      queued = number_or_zero numbers 7;
      queued_max = number_or_zero numbers 8;
      idle = number_or_zero numbers 9;
      refreshing = number_or_zero numbers 10;
      draining = draining;
    }

-- an ACT for an entry that was served before, by a column command
abbrev pub is_late_act : List IssuedCommand → Option Command → Bool
is_late_act history (Some (Act bank row source)) = list_any (λ i. is_column_command_of source i.command) history
is_late_act history (Some (Rd bank row column source)) = false
is_late_act history (Some (Wr bank row column source)) = false
is_late_act history (Some (Pre bank source)) = false
is_late_act history (Some (Prea rank)) = false
is_late_act history (Some (Ref rank)) = false
is_late_act history None = false

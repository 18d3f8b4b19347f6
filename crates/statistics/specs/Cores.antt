-- Statistics of a core, over the steps of its run, one a cycle, and its inbox.
--     core_stats s core trace steps inbox      of all the cycles of these steps
--     core_cycle s core trace steps inbox done      of the one cycle after these steps, in which the core does this
--     unanswered_cycle done why reads writes finish      of a cycle in which no reply arrives
--     only_replies steps arrived      of these replies alone
--     core_none      of no cycle
--     core_joined a b      of two stretches of cycles, the first and what follows it
--     core_times n a      of n cycles that are each like this one
--     CoreFits a      each count fits
--     core_counters, core_numbers core      its counters in `stats.csv`, and their numbers
--     core_of numbers      the statistics that have these numbers
--     RepliesFollowReads steps inbox      each reply that arrived is of an entry that was issued before
use Rattle.std.specs.Prelude.{ℕ, ◌+◌, ◌*◌, ◌^◌, ◌<◌, ◌==◌, nat_lt, nat_le, Bool, ◌&&◌, List, [], ◌∷◌, length, take, drop, filter, count_by, sum_by, codes, slice_index_or, Option, Some, None, if◌then◌else◌}
use Rattle.std.specs.Option.{IfSome, option_or}
use Rattle.std.specs.List.{AllByRecursion as Each}
use Rattle.sim_base.specs.declared.config.Config.{Config}
use Rattle.sim_base.specs.Counts.{is_read, is_write, reads, writes, replied_entry, is_reply, replies, wait_of, read_latency, is_stop, stopped_by, finish, one_if}
use Rattle.sim_base.specs.History.{retired_before, issued_before}
use Rattle.sim_base.specs.Windows.{step}
use Rattle.sim_base.specs.declared.history.CoreStep.{CoreStep}
use Rattle.sim_base.specs.declared.message.Message.{Message}
use Rattle.sim_base.specs.declared.trace.Entry.{Entry}
use Rattle.sim_base.specs.declared.trace.Stop.{Stop}
use Rattle.sim_base.specs.declared.trace.Stop.TheVariants as stop
use Rattle.statistics.specs.Counters.{number_or_zero}
use Rattle.statistics.specs.declared.cores.CoreStats.{CoreStats}
use Rattle.statistics.specs.declared.counters.CounterKind.{CounterKind}
use Rattle.statistics.specs.declared.counters.CounterKind.TheVariants.{Count, Sum, Cycle}

-- the statistics of all the cycles of these steps
unfoldable pub core_stats : Config → ℕ → List Entry → List CoreStep → List Message → CoreStats
core_stats s core trace steps inbox =
    record {
      issued = issued_before steps;
      retired = retired_before steps;
      reads = reads trace steps;
      writes = writes trace steps;
      replies = length (replies steps inbox);
      read_latency = read_latency steps inbox;
      stop_end = stopped_by s core trace steps inbox stop.End;
      stop_width = stopped_by s core trace steps inbox stop.Width;
      stop_window = stopped_by s core trace steps inbox stop.Window;
      stop_memory = stopped_by s core trace steps inbox stop.Memory;
      stop_credit = stopped_by s core trace steps inbox stop.Credit;
      finish = finish trace steps;
    }

-- the entries that the core issues in the cycle after these steps, in which it does this
abbrev pub issued_in : List Entry → List CoreStep → CoreStep → List Entry
issued_in trace steps done = take done.issued (drop (issued_before steps) trace)

-- a reply that arrives in a cycle
abbrev pub is_reply_in : ℕ → Message → Bool
is_reply_in cycle m = is_reply m && (m.arrival == cycle)

-- the replies that arrive in a cycle
unfoldable pub replies_in : ℕ → List Message → List Message
replies_in cycle inbox = filter (is_reply_in cycle) inbox

-- how long these replies were waited for, after these steps
unfoldable pub waited : List CoreStep → List Message → ℕ
waited steps ms = sum_by (λ m. wait_of steps m.arrival (replied_entry m.payload)) ms

-- the cycle after these steps, if the last entry retires in it
unfoldable pub finish_in : List Entry → List CoreStep → CoreStep → Option ℕ
finish_in trace steps done =
    if nat_lt (retired_before steps) (length trace)
    && nat_le (length trace) (retired_before steps + done.retired) then Some (length steps) else None

-- the statistics of a cycle in which no reply arrives: the core does this, stops for this cause and issues so many
-- Reads and Writes, and the last entry of its trace retires in the cycle that is given, if it does
abbrev pub unanswered_cycle : CoreStep → Stop → ℕ → ℕ → Option ℕ → CoreStats
unanswered_cycle done why reads_issued writes_issued finish_cycle =
    record {
      issued = done.issued;
      retired = done.retired;
      reads = reads_issued;
      writes = writes_issued;
      replies = 0;
      read_latency = 0;
      stop_end = one_if (is_stop stop.End why);
      stop_width = one_if (is_stop stop.Width why);
      stop_window = one_if (is_stop stop.Window why);
      stop_memory = one_if (is_stop stop.Memory why);
      stop_credit = one_if (is_stop stop.Credit why);
      finish = finish_cycle;
    }

-- the statistics of a cycle, in which the core does this, stops for this cause, and these replies arrive
unfoldable pub core_cycle_with : List Entry → List CoreStep → CoreStep → Stop → List Message → CoreStats
core_cycle_with trace steps done why arrived =
    let reads_issued = count_by is_read (issued_in trace steps done) in
    let writes_issued = count_by is_write (issued_in trace steps done) in
    record (unanswered_cycle done why reads_issued writes_issued (finish_in trace steps done)) {
      replies = length arrived;
      read_latency = waited steps arrived;
    }

-- the statistics of the cycle after these steps, in which the core does this
unfoldable pub core_cycle : Config → ℕ → List Entry → List CoreStep → List Message → CoreStep → CoreStats
core_cycle s core trace steps inbox done =
    core_cycle_with trace steps done (step s core trace steps inbox).1 (replies_in (length steps) inbox)

-- the statistics of no cycle
abbrev pub core_none : CoreStats
core_none =
    record {
      issued = 0;
      retired = 0;
      reads = 0;
      writes = 0;
      replies = 0;
      read_latency = 0;
      stop_end = 0;
      stop_width = 0;
      stop_window = 0;
      stop_memory = 0;
      stop_credit = 0;
      finish = None;
    }

-- the statistics of replies that arrive in the cycle after these steps, and of nothing else
abbrev pub only_replies : List CoreStep → List Message → CoreStats
only_replies steps arrived = record core_none { replies = length arrived; read_latency = waited steps arrived }

-- the statistics of two stretches of cycles: each count is the sum of both, and the finish is the last that is there
abbrev pub core_joined : CoreStats → CoreStats → CoreStats
core_joined a b =
    record {
      issued = a.issued + b.issued;
      retired = a.retired + b.retired;
      reads = a.reads + b.reads;
      writes = a.writes + b.writes;
      replies = a.replies + b.replies;
      read_latency = a.read_latency + b.read_latency;
      stop_end = a.stop_end + b.stop_end;
      stop_width = a.stop_width + b.stop_width;
      stop_window = a.stop_window + b.stop_window;
      stop_memory = a.stop_memory + b.stop_memory;
      stop_credit = a.stop_credit + b.stop_credit;
      finish = option_or b.finish a.finish;
    }

-- the statistics of n cycles that are each like this one: each count is n times as great
abbrev pub core_times : ℕ → CoreStats → CoreStats
core_times n a =
    record {
      issued = n * a.issued;
      retired = n * a.retired;
      reads = n * a.reads;
      writes = n * a.writes;
      replies = n * a.replies;
      read_latency = n * a.read_latency;
      stop_end = n * a.stop_end;
      stop_width = n * a.stop_width;
      stop_window = n * a.stop_window;
      stop_memory = n * a.stop_memory;
      stop_credit = n * a.stop_credit;
      finish = if n == 0 then None else a.finish;
    }

-- each count fits: it is below 2^64, and the latency below 2^128
pub record CoreFits (a : CoreStats) : Type 0 where
  pub issued : a.issued < 2 ^ 64
  pub retired : a.retired < 2 ^ 64
  pub reads : a.reads < 2 ^ 64
  pub writes : a.writes < 2 ^ 64
  pub replies : a.replies < 2 ^ 64
  pub read_latency : a.read_latency < 2 ^ 128
  pub stop_end : a.stop_end < 2 ^ 64
  pub stop_width : a.stop_width < 2 ^ 64
  pub stop_window : a.stop_window < 2 ^ 64
  pub stop_memory : a.stop_memory < 2 ^ 64
  pub stop_credit : a.stop_credit < 2 ^ 64

-- a reply, if it arrived within these steps, is of an entry that was issued in an earlier cycle
abbrev pub FollowsItsRead : List CoreStep → Message → Type 0
FollowsItsRead steps m =
    IfSome (replied_entry m.payload) (λ entry. m.arrival < length steps → entry < issued_before (take m.arrival steps))

-- each reply that arrived within these steps is of an entry that was issued in an earlier cycle
abbrev pub RepliesFollowReads : List CoreStep → List Message → Type 0
RepliesFollowReads steps inbox = Each (FollowsItsRead steps) inbox

-- the counters of a core, in the order of its rows
abbrev pub core_counters : List (List ℕ × CounterKind)
core_counters =
    (codes "issued", Count)
    ∷ (codes "retired", Count)
    ∷ (codes "reads", Count)
    ∷ (codes "writes", Count)
    ∷ (codes "replies", Count)
    ∷ (codes "read_latency", Sum)
    ∷ (codes "stop_end", Count)
    ∷ (codes "stop_width", Count)
    ∷ (codes "stop_window", Count)
    ∷ (codes "stop_memory", Count)
    ∷ (codes "stop_credit", Count)
    ∷ (codes "finish", Cycle)
    ∷ []

-- their numbers
abbrev pub core_numbers : CoreStats → List (Option ℕ)
core_numbers core =
    Some core.issued ∷ Some core.retired ∷ Some core.reads ∷ Some core.writes ∷ Some core.replies
    ∷ Some core.read_latency ∷ Some core.stop_end ∷ Some core.stop_width ∷ Some core.stop_window ∷ Some core.stop_memory
    ∷ Some core.stop_credit ∷ core.finish ∷ []

-- the statistics of a core that has these numbers
abbrev pub core_of : List (Option ℕ) → CoreStats
core_of numbers =
    record {
      issued = number_or_zero numbers 0;
      retired = number_or_zero numbers 1;
      reads = number_or_zero numbers 2;
      writes = number_or_zero numbers 3;
      replies = number_or_zero numbers 4;
      read_latency = number_or_zero numbers 5;
      stop_end = number_or_zero numbers 6;
      stop_width = number_or_zero numbers 7;
      stop_window = number_or_zero numbers 8;
      stop_memory = number_or_zero numbers 9;
      stop_credit = number_or_zero numbers 10;
      finish = slice_index_or numbers 11 None;
    }

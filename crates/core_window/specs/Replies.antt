-- A reply that comes.
--     MayTakeReply view      the counts of a core have room for a reply
--     after_reply view read arrival      what a core keeps after the reply to a Read
--     with_reply view entry arrival      what a core keeps after the reply to the Read of a number
use Rattle.std.specs.Prelude.{ℕ, ◌^◌, ◌+◌, ◌-◌, ◌<◌, ◌==◌, not, filter, Option, Some, None}
use Rattle.core_window.specs.Counting.{read_of}
use Rattle.core_window.specs.Views.{CoreView}
use Rattle.core_window.specs.declared.outstanding.OutstandingRead.{OutstandingRead}

-- a core can count one reply more
pub record MayTakeReply (view : CoreView) : Type 0 where
  pub count : view.stats.replies < 2 ^ 63
  pub sum : view.stats.read_latency < 2 ^ 127

-- what a core keeps after the reply to a Read, which arrives in this cycle
abbrev pub after_reply : CoreView → OutstandingRead → ℕ → CoreView
after_reply view read arrival =
    record view {
      outstanding = filter (λ r. not (r.entry == read.entry)) view.outstanding;
      stats = record view.stats {
        replies = view.stats.replies + 1;
        read_latency = view.stats.read_latency + (arrival - read.issued);
      };
    }

-- what a core keeps after the reply to a Read, if it waited
abbrev pub after_reply_if : CoreView → Option OutstandingRead → ℕ → CoreView
after_reply_if view None arrival = view
after_reply_if view (Some read) arrival = after_reply view read arrival

-- what a core keeps after the reply to the Read of a number, which arrives in this cycle; where that Read does not
-- wait, what it kept
abbrev pub with_reply : CoreView → ℕ → ℕ → CoreView
with_reply view entry arrival = after_reply_if view (read_of entry view.outstanding) arrival

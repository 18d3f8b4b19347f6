-- The credits of a run, and the queues that they bound.
--     requests_sent_count s traces n core channel access      the reads or writes that a core sent to a channel
--     credits_back s traces n core channel access      the credits for them that came back before cycle n
--     CreditsAreNeverOverspent s traces n      a core sends no more than its cap and what came back allow
--     CreditsComeBackOnce s traces n      no more comes back than was sent
--     QueuesAreBounded s traces n      no channel's queue has more requests than the cores have credits for it
use Rattle.std.specs.Prelude.{ℕ, ◌+◌, ◌*◌, ◌<◌, ◌≤◌, List, length, count_by}
use Rattle.sim_base.specs.declared.message.Access.{Access}
use Rattle.sim_base.specs.declared.config.Config.{Config}
use Rattle.sim_base.specs.Config.{credit_link}
use Rattle.sim_base.specs.History.{trace_of, steps_of_core, core_messages, inbox}
use Rattle.sim_base.specs.Machine.{run}
use Rattle.sim_base.specs.Scheduling.{queue_in}
use Rattle.sim_base.specs.Windows.{is_request_for, is_credit_on, credit_cap}
use Rattle.sim_base.specs.declared.message.Unit.TheVariants.{Core, Channel}
use Rattle.sim_base.specs.declared.trace.Entry.{Entry}
use Rattle.laws.specs.Commands.{channel_steps_of}

-- the reads, or the writes, that a core sent to a channel in the first n cycles
abbrev pub requests_sent_count : Config → List (List Entry) → ℕ → ℕ → ℕ → Access → ℕ
requests_sent_count s traces n core channel access =
    count_by (λ m. is_request_for channel access m.payload)
    (core_messages s core (trace_of traces core) (steps_of_core core (run s traces n)))

-- the credits for them that came back before cycle n
abbrev pub credits_back : Config → List (List Entry) → ℕ → ℕ → ℕ → Access → ℕ
credits_back s traces n core channel access =
    count_by (is_credit_on (credit_link s core channel) access n) (inbox s traces (run s traces n) (Core core))

-- a core sends a channel no more requests of an access than the credits that it held at first and those that came back
abbrev pub CreditsAreNeverOverspent : Config → List (List Entry) → ℕ → Type 0
CreditsAreNeverOverspent s traces n =
    (core channel : ℕ) (access : Access) → core < s.cores → channel < s.channels →
    requests_sent_count s traces n core channel access
    ≤ credit_cap s access + credits_back s traces n core channel access

-- no more credits for an access come back than there were requests, so a core never holds more than at first
abbrev pub CreditsComeBackOnce : Config → List (List Entry) → ℕ → Type 0
CreditsComeBackOnce s traces n =
    (core channel : ℕ) (access : Access) → core < s.cores → channel < s.channels →
    credits_back s traces n core channel access ≤ requests_sent_count s traces n core channel access

-- in no cycle does the queue of a channel have more requests than all cores together have credits for it
abbrev pub QueuesAreBounded : Config → List (List Entry) → ℕ → Type 0
QueuesAreBounded s traces n =
    (channel cycle : ℕ) → channel < s.channels → cycle ≤ n →
    length
    (queue_in channel (channel_steps_of s traces n channel) (inbox s traces (run s traces n) (Channel channel)) cycle)
    ≤ s.cores * (s.read_credits + s.write_credits)

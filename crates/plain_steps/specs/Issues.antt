-- What a core issues in a cycle, why it stops, and when it has finished.
--     request_of_entry s core cycle trace number      the request of an entry, if there is one that reads or writes
--     requests_issued s core trace issued      the requests among entries that are issued in a cycle
--     credits_held s mail channel access until      the credits that a core holds, by its messages
--     is_memory_among trace first m      whether one of m entries is a Read or a Write
--     lacks_credit_for stage entry      whether an entry needs a credit that the core does not hold
--     cause_to_stop stage m, stops_after stage m      why the core stops after m entries, if it does; whether it does
--     first_cause_to_stop stage, issue_count_of stage      after how many entries it first stops; how many it issues
--     HasSent s trace past_steps mail      the messages that a core sent are those of its steps
--     next_step_of s trace past_steps mail      what it does next, and why it stops
--     finishing_cycle entries now retired_so_far retired      the cycle, if the last of a core's entries retires in it
use Rattle.std.specs.Prelude.{◌≡◌, ℕ, ◌+◌, Bool, nat_lt, nat_le, ◌&&◌, List, find, slice_get, option_and_then, Option, Some, None, if◌then◌else◌}
use Rattle.std.specs.List.{list_any}
use Rattle.sim_base.specs.History.{below, request_of, requests_between, core_messages}
use Rattle.sim_base.specs.Windows.{held, lacks_credit, is_memory_in, stop_after, has_cause, first_stop, step}
use Rattle.sim_base.specs.declared.config.Config.{Config}
use Rattle.sim_base.specs.declared.history.CoreStep.{CoreStep}
use Rattle.sim_base.specs.declared.message.Access.{Access}
use Rattle.sim_base.specs.declared.message.Message.{Message}
use Rattle.sim_base.specs.declared.trace.Entry.{Entry}
use Rattle.sim_base.specs.declared.trace.Stop.{Stop}
use Rattle.plain_steps.specs.declared.core_cycle.CoreMail.{CoreMail}
use Rattle.plain_steps.specs.declared.core_cycle.IssuedEntries.{IssuedEntries}
use Rattle.plain_steps.specs.declared.core_cycle.IssueStage.{IssueStage}

-- the request of the entry of a number that a core issues in a cycle, if there is such an entry and it reads or writes
abbrev pub request_of_entry : Config → ℕ → ℕ → List Entry → ℕ → Option Message
request_of_entry s core cycle trace number = option_and_then (request_of s core cycle number) (slice_get trace number)

-- the requests among entries that a core issues
abbrev pub requests_issued : Config → ℕ → List Entry → IssuedEntries → List Message
requests_issued s core trace issued =
    requests_between s core trace issued.cycle issued.first (issued.first + issued.count)

-- the credits that a core holds for a channel, to read or to write, those counted that arrived before a cycle
abbrev pub credits_held : Config → CoreMail → ℕ → Access → ℕ → ℕ
credits_held s mail channel access until = held s mail.core mail.inbox.now mail.sent.now channel access until

-- whether one of m entries, from `first` on, is a Read or a Write
abbrev pub is_memory_among : List Entry → ℕ → ℕ → Bool
is_memory_among trace first m = list_any (λ k. is_memory_in (slice_get trace (first + k))) (below m)

-- whether an entry needs a credit that the core does not hold
abbrev pub lacks_credit_for : IssueStage → Option Entry → Bool
lacks_credit_for i = lacks_credit i.config.now i.mail.now.core i.mail.now.inbox.now i.mail.now.sent.now i.cycle

-- why the core issues no further entry after m, if anything stops it
abbrev pub cause_to_stop : IssueStage → ℕ → Option Stop
cause_to_stop i =
    stop_after i.config.now i.mail.now.core i.trace.now i.mail.now.inbox.now i.mail.now.sent.now i.cycle i.first
    i.retired_by_end

-- whether something stops the core after m entries
abbrev pub stops_after : IssueStage → ℕ → Bool
stops_after i =
    has_cause i.config.now i.mail.now.core i.trace.now i.mail.now.inbox.now i.mail.now.sent.now i.cycle i.first
    i.retired_by_end

-- the least number of entries, up to the width, after which something stops the core
abbrev pub first_cause_to_stop : IssueStage → Option ℕ
first_cause_to_stop i = find (stops_after i) (below (i.config.now.width + 1))

-- how many entries the core issues
abbrev pub issue_count_of : IssueStage → ℕ
issue_count_of i =
    first_stop i.config.now i.mail.now.core i.trace.now i.mail.now.inbox.now i.mail.now.sent.now i.cycle i.first
    i.retired_by_end

-- the messages that a core sent are those of its steps
abbrev pub HasSent : Config → List Entry → List CoreStep → CoreMail → Type 0
HasSent s trace past_steps mail = mail.sent.now ≡ core_messages s mail.core trace past_steps

-- what a core does in the cycle after these steps, and why it stops
abbrev pub next_step_of : Config → List Entry → List CoreStep → CoreMail → CoreStep × Stop
next_step_of s trace past_steps mail = step s mail.core trace past_steps mail.inbox.now

-- the cycle, if the last of this many entries retires in it: `retired_so_far` did before it, and `retired` do in it
abbrev pub finishing_cycle : ℕ → ℕ → ℕ → ℕ → Option ℕ
finishing_cycle entries now retired_so_far retired =
    if nat_lt retired_so_far entries && nat_le entries (retired_so_far + retired) then Some now
    else None

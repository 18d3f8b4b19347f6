-- The messages of a run that come to a unit, span by span.
--     arriving from until mail      the messages that arrive in the cycles from `from` up to `until`
--     mail_before s traces n unit cycle      the messages of a run of n cycles that arrive at a unit before a cycle
--     mail_in s traces n unit from until      the messages of a run of n cycles that arrive at a unit in a span
--     MailIsSettled s traces from until      what arrives before a cycle does not depend on what is done later
--     MailIsKnown s traces from until      what arrives in a span no longer than any latency was sent before it
--     SpansJoin s traces from until      what arrived before a span, and what arrives in it, is what arrived by its end
--     MailIsSent s traces from until      what arrives at a unit in a span is, by age, all that is sent to it for then
use Rattle.std.specs.Prelude.{◌≡◌, ℕ, ◌-◌, ◌≤◌, nat_lt, nat_le, ◌&&◌, List, ◌++◌, filter}
use Rattle.sim_base.specs.declared.config.Config.{Config}
use Rattle.sim_base.specs.History.{is_to, messages, by_age, inbox}
use Rattle.sim_base.specs.Locality.{TravelsFor}
use Rattle.sim_base.specs.Machine.{run}
use Rattle.sim_base.specs.declared.message.Message.{Message}
use Rattle.sim_base.specs.declared.message.Unit.{Unit as MachineUnit}
use Rattle.sim_base.specs.declared.trace.Entry.{Entry}
use Rattle.links.specs.Buffers.{due_of}

-- the messages that arrive in the cycles from `from` up to `until`
abbrev pub arriving : ℕ → ℕ → List Message → List Message
arriving from until mail = filter (λ m. nat_le from m.arrival && nat_lt m.arrival until) mail

-- of the messages that are sent in the first n cycles of a run, those that arrive at a unit before a cycle, by age
abbrev pub mail_before : Config → List (List Entry) → ℕ → MachineUnit → ℕ → List Message
mail_before s traces n unit cycle = due_of cycle (inbox s traces (run s traces n) unit)

-- of the messages that are sent in the first n cycles of a run, those that arrive at a unit in the cycles from `from`
-- up to `until`, by age
abbrev pub mail_in : Config → List (List Entry) → ℕ → MachineUnit → ℕ → ℕ → List Message
mail_in s traces n unit from until = arriving from until (inbox s traces (run s traces n) unit)

-- what arrives at a unit before a cycle does not depend on what is done from that cycle on
abbrev pub MailIsSettled : Config → List (List Entry) → ℕ → ℕ → Type 0
MailIsSettled s traces from until =
    (unit : MachineUnit) → from ≤ until → mail_before s traces until unit from ≡ mail_before s traces from unit from

-- where no message travels for less than a span, what arrives in the span was sent before it
abbrev pub MailIsKnown : Config → List (List Entry) → ℕ → ℕ → Type 0
MailIsKnown s traces from until =
    (unit : MachineUnit) → from ≤ until → TravelsFor s (until - from)
    → mail_in s traces until unit from until ≡ mail_in s traces from unit from until

-- what arrived before a span, and what arrives in it, is what arrived by its end
abbrev pub SpansJoin : Config → List (List Entry) → ℕ → ℕ → Type 0
SpansJoin s traces from until =
    (unit : MachineUnit) → from ≤ until
    → mail_before s traces until unit from ++ mail_in s traces until unit from until
    ≡ mail_before s traces until unit until

-- what arrives in a span is, by age, those of the messages sent so far that go to the unit and arrive in the span
abbrev pub MailIsSent : Config → List (List Entry) → ℕ → ℕ → Type 0
MailIsSent s traces from until =
    (unit : MachineUnit) (n : ℕ)
    → mail_in s traces n unit from until
    ≡ by_age (arriving from until (filter (is_to s unit) (messages s traces (run s traces n))))

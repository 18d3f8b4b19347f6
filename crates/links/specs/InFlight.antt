-- The messages in flight.
--     InFlight      the messages, and how many channels the machine has
--     arrives_before until m      a message arrives before a cycle
--     is_due channels unit from until m      a message that arrives at a unit within a span
--     is_due_before channels unit until m      a message that arrives at a unit before a cycle
--     nothing_in_flight s      no messages, on the links of a machine
--     with_sent flight ms      what is in flight after messages are sent
--     due_before flight unit until      what arrives at a unit before a cycle
--     without_due flight unit until      what is in flight when that is taken out
--     in_flight_to flight unit      what is in flight to a unit
--     first_arrival ms      when the first of some messages arrives
--     NoneArrivesBefore cycle ms      none of some messages arrives before a cycle
--     SomeAt cycle ms      one of them arrives in it
use Rattle.std.specs.Prelude.{◌≡◌, ℕ, ◌≤◌, nat_lt, nat_le, Bool, not, ◌&&◌, List, [], fold, filter, slice_get, All, Any, Option, option_map}
use Rattle.sim_base.specs.History.{is_unit, insert_by_age, receiver_of}
use Rattle.sim_base.specs.declared.config.Config.{Config}
use Rattle.sim_base.specs.declared.message.Message.{Message}
use Rattle.sim_base.specs.declared.message.Unit.{Unit as MachineUnit}

-- the messages in flight, by age, and the number of channels, which says where a link leads
pub record InFlight : Type 0 where
  pub channels : ℕ
  pub messages : List Message

-- a message that arrives before a cycle
abbrev pub arrives_before : ℕ → Message → Bool
arrives_before until m = nat_lt m.arrival until

-- a message that arrives in a cycle from `from` on and before `until`
abbrev pub arrives_within : ℕ → ℕ → Message → Bool
arrives_within from until m = nat_le from m.arrival && nat_lt m.arrival until

-- a message to this unit that arrives within a span
abbrev pub is_due : ℕ → MachineUnit → ℕ → ℕ → Message → Bool
is_due channels unit from until m = is_unit (receiver_of channels m.link) unit && arrives_within from until m

-- a message to this unit that arrives before a cycle
abbrev pub is_due_before : ℕ → MachineUnit → ℕ → Message → Bool
is_due_before channels unit until m = is_unit (receiver_of channels m.link) unit && arrives_before until m

-- no messages, on the links of this machine
abbrev pub nothing_in_flight : Config → InFlight
nothing_in_flight s = record { channels = s.channels; messages = [] }

-- what is in flight after these messages are sent, each put among the others by age
abbrev pub with_sent : InFlight → List Message → InFlight
with_sent flight ms = record flight { messages = fold insert_by_age flight.messages ms }

-- what arrives at a unit before a cycle, by age
abbrev pub due_before : InFlight → MachineUnit → ℕ → List Message
due_before flight unit until = filter (is_due_before flight.channels unit until) flight.messages

-- what is in flight once what arrives at a unit before a cycle is taken out
abbrev pub without_due : InFlight → MachineUnit → ℕ → InFlight
without_due flight unit until =
    record flight { messages = filter (λ m. not (is_due_before flight.channels unit until m)) flight.messages }

-- what is in flight to a unit, by age
abbrev pub in_flight_to : InFlight → MachineUnit → List Message
in_flight_to flight unit = filter (λ m. is_unit (receiver_of flight.channels m.link) unit) flight.messages

-- when the first of these messages arrives, if there is one
abbrev pub first_arrival : List Message → Option ℕ
first_arrival ms = option_map (λ m. m.arrival) (slice_get ms 0)

-- none of these messages arrives before a cycle
abbrev pub NoneArrivesBefore : ℕ → List Message → Type 0
NoneArrivesBefore cycle ms = All (λ m. cycle ≤ m.arrival) ms

-- one of these messages arrives in a cycle
abbrev pub SomeAt : ℕ → List Message → Type 0
SomeAt cycle ms = Any (λ m. m.arrival ≡ cycle) ms

-- A machine whose cores and channels go on in turns, each unit with a wake word: only those that wake before the end
-- of a turn are run.
--     own_cycle a b unit, other_cycle a b unit      where the units of a unit's kind stand, and those of the other kind
--     WaitsInTurns s traces a b unit at wake      a unit stands at cycle `at`, and may be left alone up to its word
--     IsInTurns s traces a b at wake flight      the cores stand at cycle a, the channels at b, and this is in flight
--     IsLeftAlone, IsRunOn      what becomes of a unit in a turn of its kind
--     IsLowered      what becomes of a unit in a turn of the other kind
--     ChannelsTake, CoresTake s traces until ..      a turn of the channels, and a turn of the cores
--     ChannelsAreReady, CoresAreReady      what is due at a unit is what arrives at it from where it stands
--     ChannelGoes, CoreGoes, ChannelStays, CoreStays      what becomes of one unit in a turn, for machines in parts
--     ChannelsTurn, CoresTurn      after a turn the machine is in turns again
--     TurnsBegin s traces now      where all units stand at one cycle, each ready to wake, the machine is in turns
--     ChannelsIdle, CoresIdle s traces a b until      a turn in which no unit is touched
--     TurnsJump s traces a b until      up to the least word all units may be left alone
use Rattle.std.specs.Prelude.{◌≡◌, ◌⊎◌, ℕ, ◌-◌, ◌<◌, ◌≤◌, true, false, List, [], ◌++◌, filter, fold, flat_map, All}
use Rattle.sim_base.specs.declared.config.Config.{Config}
use Rattle.sim_base.specs.Counts.{in_flight}
use Rattle.sim_base.specs.History.{below, is_to, messages_of_core, messages_of_channel, insert_by_age}
use Rattle.sim_base.specs.Machine.{run}
use Rattle.sim_base.specs.declared.message.Message.{Message}
use Rattle.sim_base.specs.declared.message.Unit.{Unit as MachineUnit}
use Rattle.sim_base.specs.declared.message.Unit.TheVariants.{Core, Channel}
use Rattle.sim_base.specs.declared.trace.Entry.{Entry}
use Rattle.links.specs.InFlight.{is_due}
use Rattle.units.specs.SpanLaws.Flight.{has_unit, left_after}
use Rattle.units.specs.SpanLaws.Mail.{mail_in}
use Rattle.units.specs.SpanLaws.Quiet.{IsSilent}
use Rattle.units.specs.SpanLaws.Units.{Exists, sent_of}
use Rattle.units.specs.SpanLaws.FlightInTurns.{flight_of, left_by_channels, left_by_cores}
use Rattle.units.specs.SpanLaws.Sent.{RequestsTravelFor, AnswersTakeFor}

-- where the units of a unit's kind stand, where the cores stand at cycle a and the channels at cycle b
abbrev pub own_cycle : ℕ → ℕ → MachineUnit → ℕ
own_cycle a b (Core core) = a
own_cycle a b (Channel channel) = b

-- where the units that send to a unit stand, where the cores stand at cycle a and the channels at cycle b
abbrev pub other_cycle : ℕ → ℕ → MachineUnit → ℕ
other_cycle a b (Core core) = b
other_cycle a b (Channel channel) = a

-- A unit stands at a cycle that is not past its kind's, and may be left alone up to its word: it would send nothing,
-- and of what the other kind has sent so far nothing arrives at it.
pub record WaitsInTurns (s : Config) (traces : List (List Entry)) (a b : ℕ) (unit : MachineUnit) (at wake : ℕ)
    : Type 0 where
  pub behind : at ≤ own_cycle a b unit
  pub ahead : own_cycle a b unit ≤ wake
  pub silent : IsSilent s traces at wake unit
  pub none : mail_in s traces (other_cycle a b unit) unit at wake ≡ []

-- The cores stand at cycle a and the channels at cycle b, neither further ahead than the least time of a message to
-- them; each unit waits, and exactly what is in flight is held.
pub record IsInTurns (s : Config) (traces : List (List Entry)) (a b : ℕ) (at wake : MachineUnit → ℕ)
    (flight : List Message) : Type 0 where
  pub channels_near : RequestsTravelFor s (b - a)
  pub cores_near : AnswersTakeFor s (a - b)
  pub wait : (unit : MachineUnit) → Exists s unit → WaitsInTurns s traces a b unit (at unit) (wake unit)
  pub holds : flight ≡ flight_of s traces a b

-- In a turn of its kind, a unit whose word is not before the end of the turn is left as it is.
pub record IsLeftAlone (until at wake at_then wake_then : ℕ) (sent : List Message) : Type 0 where
  pub wakes_later : until ≤ wake
  pub same_at : at_then ≡ at
  pub same_wake : wake_then ≡ wake
  pub sends_none : sent ≡ []

-- In a turn of its kind, a unit whose word is before the end of the turn is run from where it stands up to the end. Its
-- new word is not past what it sends next, if nothing arrives, nor past what is in flight to it.
pub record IsRunOn (s : Config) (traces : List (List Entry)) (unit : MachineUnit) (until at at_then wake_then : ℕ)
    (flight sent : List Message) : Type 0 where
  pub stands : at_then ≡ until
  pub since : until ≤ wake_then
  pub silent : IsSilent s traces until wake_then unit
  pub none_due : filter (is_due s.channels unit until wake_then) flight ≡ []
  pub sends : sent_of s traces until unit ≡ sent_of s traces at unit ++ sent

-- In a turn of the other kind a unit stays where it stands, and its word is lowered to the arrivals of what is sent
-- to it, and no further.
pub record IsLowered (s : Config) (unit : MachineUnit) (at wake at_then wake_then : ℕ) (sent : List Message)
    : Type 0 where
  pub stays : at_then ≡ at
  pub less : wake_then ≤ wake
  pub arrivals : All (λ m. is_to s unit m ≡ true → wake_then ≤ m.arrival) sent
  pub no_further : (cycle : ℕ) → cycle ≤ wake → All (λ m. cycle ≤ m.arrival) sent → cycle ≤ wake_then

-- a turn of the channels: each is left or run, the words of the cores are lowered, and what the channels send is added
pub record ChannelsTake (s : Config) (traces : List (List Entry)) (until : ℕ)
    (at wake at_then wake_then : MachineUnit → ℕ) (flight flight_then : List Message) : Type 0 where
  pub sent : ℕ → List Message
  pub go : (channel : ℕ) → channel < s.channels
      → IsLeftAlone until (at (Channel channel)) (wake (Channel channel)) (at_then (Channel channel))
      (wake_then (Channel channel)) (sent channel)
      ⊎ IsRunOn s traces (Channel channel) until (at (Channel channel)) (at_then (Channel channel))
      (wake_then (Channel channel)) flight (sent channel)
  pub stay : (core : ℕ) → core < s.cores
      → IsLowered s (Core core) (at (Core core)) (wake (Core core)) (at_then (Core core)) (wake_then (Core core))
      (flat_map sent (below s.channels))
  pub flight_is : flight_then ≡ fold insert_by_age (left_by_channels until flight) (flat_map sent (below s.channels))

-- a turn of the cores: each is left or run, the words of the channels are lowered, and what the cores send is added
pub record CoresTake (s : Config) (traces : List (List Entry)) (until : ℕ) (at wake at_then wake_then : MachineUnit → ℕ)
    (flight flight_then : List Message) : Type 0 where
  pub sent : ℕ → List Message
  pub go : (core : ℕ) → core < s.cores
      → IsLeftAlone until (at (Core core)) (wake (Core core)) (at_then (Core core)) (wake_then (Core core)) (sent core)
      ⊎ IsRunOn s traces (Core core) until (at (Core core)) (at_then (Core core)) (wake_then (Core core)) flight
      (sent core)
  pub stay : (channel : ℕ) → channel < s.channels
      → IsLowered s (Channel channel) (at (Channel channel)) (wake (Channel channel)) (at_then (Channel channel))
      (wake_then (Channel channel)) (flat_map sent (below s.cores))
  pub flight_is : flight_then ≡ fold insert_by_age (left_by_cores until flight) (flat_map sent (below s.cores))

-- what is due at a channel in a turn, even after other units have taken theirs, is what arrives at it in the run from
-- the cycle where it stands, so that it may be run from there
abbrev pub ChannelsAreReady : Config → List (List Entry) → ℕ → ℕ → ℕ → Type 0
ChannelsAreReady s traces a b until =
    (at wake : MachineUnit → ℕ) (flight : List Message) (units : List MachineUnit) (channel : ℕ) → b ≤ until
    → RequestsTravelFor s (until - a) → channel < s.channels
    → has_unit units (Channel channel) ≡ false
    → IsInTurns s traces a b at wake flight
    → filter (is_due s.channels (Channel channel) b until) (left_after s.channels b until units flight)
    ≡ mail_in s traces until (Channel channel) (at (Channel channel)) until

-- what is due at a core in a turn, even after other units have taken theirs, is what arrives at it in the run from the
-- cycle where it stands, so that it may be run from there
abbrev pub CoresAreReady : Config → List (List Entry) → ℕ → ℕ → ℕ → Type 0
CoresAreReady s traces a b until =
    (at wake : MachineUnit → ℕ) (flight : List Message) (units : List MachineUnit) (core : ℕ) → a ≤ until
    → AnswersTakeFor s (until - b) → core < s.cores
    → has_unit units (Core core) ≡ false
    → IsInTurns s traces a b at wake flight
    → filter (is_due s.channels (Core core) a until) (left_after s.channels a until units flight)
    ≡ mail_in s traces until (Core core) (at (Core core)) until

-- after a turn of the channels, no further beyond the cores than any request travels, the machine is in turns again
abbrev pub ChannelsTurn : Config → List (List Entry) → ℕ → ℕ → ℕ → Type 0
ChannelsTurn s traces a b until =
    (at wake at_then wake_then : MachineUnit → ℕ) (flight flight_then : List Message) → b ≤ until
    → RequestsTravelFor s (until - a)
    → IsInTurns s traces a b at wake flight → ChannelsTake s traces until at wake at_then wake_then flight flight_then
    → IsInTurns s traces a until at_then wake_then flight_then

-- after a turn of the cores, no further beyond the channels than any credit or reply takes, the machine is in turns
-- again
abbrev pub CoresTurn : Config → List (List Entry) → ℕ → ℕ → ℕ → Type 0
CoresTurn s traces a b until =
    (at wake at_then wake_then : MachineUnit → ℕ) (flight flight_then : List Message) → a ≤ until
    → AnswersTakeFor s (until - b)
    → IsInTurns s traces a b at wake flight → CoresTake s traces until at wake at_then wake_then flight flight_then
    → IsInTurns s traces until b at_then wake_then flight_then

-- where all units stand at one cycle, each ready to wake at once, and what is in flight in the run is held, the
-- machine is in turns
abbrev pub TurnsBegin : Config → List (List Entry) → ℕ → Type 0
TurnsBegin s traces now = IsInTurns s traces now now (λ unit. now) (λ unit. now) (in_flight s traces (run s traces now))

-- a turn of the channels in which no channel is touched leaves all as it is
abbrev pub ChannelsIdle : Config → List (List Entry) → ℕ → ℕ → ℕ → Type 0
ChannelsIdle s traces a b until =
    (at wake : MachineUnit → ℕ) (flight : List Message) → b ≤ until → RequestsTravelFor s (until - a)
    → ((channel : ℕ) → channel < s.channels → until ≤ wake (Channel channel))
    → IsInTurns s traces a b at wake flight → IsInTurns s traces a until at wake flight

-- a turn of the cores in which no core is touched leaves all as it is
abbrev pub CoresIdle : Config → List (List Entry) → ℕ → ℕ → ℕ → Type 0
CoresIdle s traces a b until =
    (at wake : MachineUnit → ℕ) (flight : List Message) → a ≤ until → AnswersTakeFor s (until - b)
    → ((core : ℕ) → core < s.cores → until ≤ wake (Core core))
    → IsInTurns s traces a b at wake flight → IsInTurns s traces until b at wake flight

-- up to a cycle that no word is before, and neither kind is past, all units may be left alone at once, however long
-- that is
abbrev pub TurnsJump : Config → List (List Entry) → ℕ → ℕ → ℕ → Type 0
TurnsJump s traces a b until =
    (at wake : MachineUnit → ℕ) (flight : List Message) → a ≤ until → b ≤ until
    → ((unit : MachineUnit) → Exists s unit → until ≤ wake unit)
    → IsInTurns s traces a b at wake flight → IsInTurns s traces until until at wake flight

-- A channel in a turn of the channels waits again, and what it sent has grown by what it sends. Only what is in flight
-- to it has to be held.
abbrev pub ChannelGoes : Config → List (List Entry) → ℕ → ℕ → ℕ → Type 0
ChannelGoes s traces a b until =
    (channel at wake at_then wake_then : ℕ) (sent : List Message) → channel < s.channels → b ≤ until
    → RequestsTravelFor s (b - a) → RequestsTravelFor s (until - a)
    → WaitsInTurns s traces a b (Channel channel) at wake
    → IsLeftAlone until at wake at_then wake_then sent
    ⊎ IsRunOn s traces (Channel channel) until at at_then wake_then (flight_of s traces a b) sent
    → WaitsInTurns s traces a until (Channel channel) at_then wake_then
    × (messages_of_channel s (run s traces until) channel ≡ messages_of_channel s (run s traces b) channel ++ sent)

-- A core in a turn of the cores waits again, and what it sent has grown by what it sends. Only what is in flight to it
-- has to be held.
abbrev pub CoreGoes : Config → List (List Entry) → ℕ → ℕ → ℕ → Type 0
CoreGoes s traces a b until =
    (core at wake at_then wake_then : ℕ) (sent : List Message) → core < s.cores → a ≤ until → AnswersTakeFor s (a - b)
    → AnswersTakeFor s (until - b)
    → WaitsInTurns s traces a b (Core core) at wake
    → IsLeftAlone until at wake at_then wake_then sent
    ⊎ IsRunOn s traces (Core core) until at at_then wake_then (flight_of s traces a b) sent
    → WaitsInTurns s traces until b (Core core) at_then wake_then
    × (messages_of_core s traces (run s traces until) core ≡ messages_of_core s traces (run s traces a) core ++ sent)

-- A core in a turn of the channels waits still, with its word lowered to what they send.
abbrev pub CoreStays : Config → List (List Entry) → ℕ → ℕ → ℕ → Type 0
CoreStays s traces a b until =
    (core at wake at_then wake_then : ℕ) (sent : ℕ → List Message) → b ≤ until → AnswersTakeFor s (a - b)
    → ((channel : ℕ) → channel < s.channels
    → messages_of_channel s (run s traces until) channel
    ≡ messages_of_channel s (run s traces b) channel ++ sent channel)
    → WaitsInTurns s traces a b (Core core) at wake
    → IsLowered s (Core core) at wake at_then wake_then (flat_map sent (below s.channels))
    → WaitsInTurns s traces a until (Core core) at_then wake_then

-- A channel in a turn of the cores waits still, with its word lowered to what they send.
abbrev pub ChannelStays : Config → List (List Entry) → ℕ → ℕ → ℕ → Type 0
ChannelStays s traces a b until =
    (channel at wake at_then wake_then : ℕ) (sent : ℕ → List Message) → a ≤ until → RequestsTravelFor s (b - a)
    → ((core : ℕ) → core < s.cores
    → messages_of_core s traces (run s traces until) core
    ≡ messages_of_core s traces (run s traces a) core ++ sent core)
    → WaitsInTurns s traces a b (Channel channel) at wake
    → IsLowered s (Channel channel) at wake at_then wake_then (flat_map sent (below s.cores))
    → WaitsInTurns s traces until b (Channel channel) at_then wake_then

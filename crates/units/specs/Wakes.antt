-- A machine whose units stand at cycles of their own, so that a phase touches only those with something to do.
--     UnitWithWord      a unit, the cycle where it stands, and its wake word
--     AreTimedUnits now parts units      units that all stand at a cycle
--     word_of arrival from send      the word of a unit, by the next arrival and by when it may send
--     MayWait machine unit known at wake      as far as is known, a unit at cycle `at` may be left alone up to `wake`
--     Waits machine unit here there unit_with_word      a unit may be left alone up to its word, as far as is known
--     WaitAll machine first here there units words      all units at places from `first` on may be left alone for now
--     IsInboxKnown machine there until unit      what arrives at a unit before `until` was sent before `there`
--     HoldsInbox machine here there until unit links      the links hold what arrives at a unit, and it is known
--     HoldInboxes machine first count here there until links      the links hold what arrives at `count` units
--     units_from s first count      `count` units at places from `first` on
--     links_after s from until first count links      the links when `count` units have taken what arrives in a span
--     HasGoneOn machine unit here there until unit_with_word messages      a unit has gone on to a cycle, and sent this
--     AreBetweenPhases machine first now units words links      what holds of some units between two phases
--     HaveRun machine first now until units words links      what holds of some units at the end of a phase
--     arrived_at, arriving_at machine known unit ..      what arrives at a unit before a cycle, and in a span
--     links_to s first count mail      links with the messages that go to `count` units at places from `first` on
--     goes_to_place s m place      a message goes to the unit at a place
--     NoneIsLater, IsNoLaterAt, IsNoneSooner      words of which one is lowered to an arrival
--     AreEarly s first words links      no word is later than the arrival of what is in flight to its unit
--     AreLowered s first sent old new      words lowered to the arrivals of what was sent
--     IsStill machine now then      nothing is sent in a span, and nothing in flight arrives in it
use Rattle.std.specs.Prelude.{◌≡◌, ℕ, zero, suc, ◌+◌, ◌^◌, ◌<◌, ◌≤◌, min, max, true, Bool, List, [], ◌∷◌, ◌++◌, length, slice_index_or, filter, flat_map, All, Option}
use Rattle.std.specs.Option.{option_map_or}
use Rattle.sim_base.specs.declared.config.Config.{Config}
use Rattle.sim_base.specs.History.{below, is_unit, receiver_of}
use Rattle.sim_base.specs.declared.message.Message.{Message}
use Rattle.sim_base.specs.declared.message.Unit.{Unit as MachineUnit}
use Rattle.links.specs.InFlight.{InFlight, is_due}
use Rattle.units.specs.SpanLaws.Flight.{left_after}
use Rattle.units.specs.SpanLaws.Mail.{mail_before, mail_in}
use Rattle.units.specs.Flight.{fresh, among}
use Rattle.units.specs.Parts.{IsPart}
use Rattle.links.specs.Buffers.{later_of}
use Rattle.units.specs.Quiet.{SendsNothing}
use Rattle.units.specs.Runs.{flight_at, sent_at}
use Rattle.units.specs.Units.{unit_at, unit_count}
use Rattle.units.specs.declared.machine.Machine.{Machine}
use Rattle.units.specs.declared.part.UnitState.{UnitState}
use Rattle.units.specs.declared.timed_unit.TimedUnit.{TimedUnit}

-- A unit, the cycle where it stands, and its wake word: before that it sends nothing, and nothing arrives at it.
pub record UnitWithWord : Type 0 where
  pub part : UnitState
  pub at : ℕ
  pub wake : ℕ

-- units in their order, each of which stands at cycle `now`
pub record AreTimedUnits (now : ℕ) (parts : List UnitState) (units : List TimedUnit) : Type 0 where
  pub count : length units ≡ length parts
  pub parts_are : (k : ℕ) (d : TimedUnit) (e : UnitState) → k < length parts
      → (slice_index_or units k d).part ≡ slice_index_or parts k e
  pub stand : (k : ℕ) (d : TimedUnit) → k < length parts → (slice_index_or units k d).at ≡ now

-- a unit with its word
abbrev pub unit_with_word : TimedUnit → ℕ → UnitWithWord
unit_with_word unit word = record { part = unit.part; at = unit.at; wake = word }

-- the unit at a place of these units, with its word
abbrev pub unit_with_word_at : List TimedUnit → List ℕ → ℕ → TimedUnit → UnitWithWord
unit_with_word_at units words k d = unit_with_word (slice_index_or units k d) (slice_index_or words k 0)

-- The word of a unit that stands at cycle `from` and sends nothing before `send`, if nothing arrives: the cycle of the
-- next arrival, which is not before `from`, or `send`, if that comes sooner.
abbrev pub word_of : Option ℕ → ℕ → ℕ → ℕ
word_of arrival from send = option_map_or (λ cycle. min (max cycle from) send) arrival send

-- of what is sent in the first `known` cycles of a run, what arrives at a unit before a cycle
abbrev pub arrived_at : Machine → ℕ → MachineUnit → ℕ → List Message
arrived_at machine known unit until = mail_before machine.config machine.traces.items known unit until

-- of what is sent in the first `known` cycles of a run, what arrives at a unit in a span
abbrev pub arriving_at : Machine → ℕ → MachineUnit → ℕ → ℕ → List Message
arriving_at machine known unit from until = mail_in machine.config machine.traces.items known unit from until

-- A unit that stands at cycle `at` may be left alone up to `wake`: it would send nothing, and of what was sent in the
-- first `known` cycles of the run nothing arrives at it. What is sent later may still arrive sooner, and the word is
-- then lowered.
pub record MayWait (machine : Machine) (unit : MachineUnit) (known at wake : ℕ) : Type 0 where
  pub silent : SendsNothing machine at wake unit
  pub none : arriving_at machine known unit at wake ≡ []

-- A unit stands for its part of a run up to its own cycle, which is not past the cycle `here` where its kind stands,
-- and may be left alone up to its word, as far as is known from the units that send to it, which stand at cycle
-- `there`.
pub record Waits (machine : Machine) (unit : MachineUnit) (here there : ℕ) (unit_with_word : UnitWithWord)
    : Type 0 where
  pub behind : unit_with_word.at ≤ here
  pub ahead : here ≤ unit_with_word.wake
  pub stands : IsPart machine unit unit_with_word.at unit_with_word.part
  pub may : MayWait machine unit there unit_with_word.at unit_with_word.wake

-- all units at places from `first` on may be left alone, in their order, each up to the word at its place
abbrev pub WaitAll : Machine → ℕ → ℕ → ℕ → List TimedUnit → List ℕ → Type 0
WaitAll machine first here there units words =
    (k : ℕ) (d : TimedUnit) → k < length units
    → Waits machine (unit_at machine.config (first + k)) here there (unit_with_word_at units words k d)

-- what arrives at a unit before a cycle was sent in the first `there` cycles of a run
abbrev pub IsInboxKnown : Machine → ℕ → ℕ → MachineUnit → Type 0
IsInboxKnown machine there until unit = arrived_at machine until unit until ≡ arrived_at machine there unit until

-- The links hold, of what is sent to a unit in the first `there` cycles of a run, exactly what arrives from cycle
-- `here` on, where its kind stands. Nothing else arrives before `until`, so that the unit may be run up to there.
pub record HoldsInbox (machine : Machine) (here there until : ℕ) (unit : MachineUnit) (links : InFlight) : Type 0 where
  pub channels_are : links.channels ≡ machine.config.channels
  pub overdue : filter (is_due machine.config.channels unit 0 here) links.messages ≡ []
  pub due : (from to : ℕ) → here ≤ from
      → filter (is_due machine.config.channels unit from to) links.messages ≡ arriving_at machine there unit from to
  pub known : IsInboxKnown machine there until unit

-- the links hold what arrives at each of `count` units at places from `first` on
abbrev pub HoldInboxes : Machine → ℕ → ℕ → ℕ → ℕ → ℕ → InFlight → Type 0
HoldInboxes machine first count here there until links =
    (k : ℕ) → k < count → HoldsInbox machine here there until (unit_at machine.config (first + k)) links

-- the `count` units at places from `first` on
unfoldable pub units_from : Config → ℕ → ℕ → List MachineUnit
units_from s first zero = []
units_from s first (suc count) = units_from s first count ++ unit_at s (first + count) ∷ []

-- the links when `count` units at places from `first` on have taken what arrives at them in a span
abbrev pub links_after : Config → ℕ → ℕ → ℕ → ℕ → InFlight → InFlight
links_after s from until first count links =
    record links { messages = left_after s.channels from until (units_from s first count) links.messages }

-- the links with those of these messages that go to `count` units at places from `first` on
abbrev pub links_to : Config → ℕ → ℕ → List Message → InFlight
links_to s first count mail = record { channels = s.channels; messages = among s first (first + count) mail }

-- A unit has gone on with its kind from cycle `here` to `until`, while those that send to it stand at `there`. What
-- they have sent so far it knows.
pub record HasGoneOn (machine : Machine) (unit : MachineUnit) (here there until : ℕ) (unit_with_word : UnitWithWord)
    (messages : List Message) : Type 0 where
  pub waits : Waits machine unit until there unit_with_word
  pub sent : sent_at machine until unit ≡ sent_at machine here unit ++ messages

-- a unit has gone on with its kind, and what it sent is put at the end of a list
pub record AddsWhatItSent (machine : Machine) (unit : MachineUnit) (here there until : ℕ)
    (unit_with_word : UnitWithWord) (old new : List Message) : Type 0 where
  pub messages : List Message
  pub has_run : HasGoneOn machine unit here there until unit_with_word messages
  pub added : new ≡ old ++ messages

-- What holds of some units of a machine, at places from `first` on, between two phases: the links hold exactly what is
-- in flight to them in the run.
pub record AreBetweenPhases (machine : Machine) (first now : ℕ) (units : List TimedUnit) (words : List ℕ)
    (links : InFlight) : Type 0 where
  pub early : now ≤ 10 ^ 12
  pub within : first + length units ≤ unit_count machine.config
  pub words_count : length words ≡ length units
  pub wait : WaitAll machine first now now units words
  pub flight : links ≡ links_to machine.config first (length units) (flight_at machine now)

-- What holds of some units of a machine, at places from `first` on, at the end of a phase: their words do not yet know
-- what was sent in it, and the links hold exactly what was in flight to them at its beginning and arrives later.
pub record HaveRun (machine : Machine) (first now until : ℕ) (units : List TimedUnit) (words : List ℕ)
    (links : InFlight) : Type 0 where
  pub within : first + length units ≤ unit_count machine.config
  pub words_count : length words ≡ length units
  pub between : WaitAll machine first until now units words
  pub flight : links ≡ links_to machine.config first (length units) (later_of until (flight_at machine now))

-- what all units send in a phase
abbrev pub sent_in : Machine → ℕ → ℕ → List Message
sent_in machine now until = flat_map (fresh machine now until) (below (unit_count machine.config))

-- a message goes to the unit at a place
abbrev pub goes_to_place : Config → Message → ℕ → Bool
goes_to_place s m place = is_unit (receiver_of s.channels m.link) (unit_at s place)

-- no new word is later than the old one
abbrev pub NoneIsLater : List ℕ → List ℕ → Type 0
NoneIsLater old new = (k : ℕ) → k < length old → slice_index_or new k 0 ≤ slice_index_or old k 0

-- of units at places from `first` on, the word of the one at `place` is no later than an arrival
abbrev pub IsNoLaterAt : ℕ → ℕ → List ℕ → ℕ → Type 0
IsNoLaterAt first arrival words place =
    (k : ℕ) → k < length words → first + k ≡ place → slice_index_or words k 0 ≤ arrival

-- a new word is before a cycle only where the old one is, or an arrival
abbrev pub IsNoneSooner : List ℕ → List ℕ → ℕ → Type 0
IsNoneSooner old new arrival =
    (cycle k : ℕ) → k < length old → cycle ≤ slice_index_or old k 0 → cycle ≤ arrival → cycle ≤ slice_index_or new k 0

-- the word of each unit, of those at places from `first` on, is no later than the arrival of what is in flight to it
abbrev pub AreEarly : Config → ℕ → List ℕ → InFlight → Type 0
AreEarly s first words links =
    (k : ℕ) → k < length words
    → All (λ m. goes_to_place s m (first + k) ≡ true → slice_index_or words k 0 ≤ m.arrival) links.messages

-- The word of each unit, of those at places from `first` on, is no later than the arrival of what is sent to it; and if
-- neither its old word nor any arrival is before a cycle, nor is the new one.
pub record AreLowered (s : Config) (first : ℕ) (sent : List Message) (old new : List ℕ) : Type 0 where
  pub count : length new ≡ length old
  pub less : NoneIsLater old new
  pub arrivals : (k j : ℕ) (d : Message) → k < length old → j < length sent
      → goes_to_place s (slice_index_or sent j d) (first + k) ≡ true
      → slice_index_or new k 0 ≤ (slice_index_or sent j d).arrival
  pub since : (cycle : ℕ) → All (λ m. cycle ≤ m.arrival) sent
      → (k : ℕ) → k < length old → cycle ≤ slice_index_or old k 0 → cycle ≤ slice_index_or new k 0

-- Nothing is sent in a span by any unit, and nothing in flight arrives in it.
pub record IsStill (machine : Machine) (now then : ℕ) : Type 0 where
  pub sent : (place : ℕ) → place < unit_count machine.config
      → sent_at machine then (unit_at machine.config place) ≡ sent_at machine now (unit_at machine.config place)
  pub flight : flight_at machine then ≡ flight_at machine now

-- Units of a kind that go on over a span, while those that send to them stand.
--     WaitsAt machine place span unit_with_word      the unit at a place waits where the span begins
--     WaitsNow machine place now unit_with_word      the unit at a place waits where all units stand
--     HoldsInboxOver machine place span links      the links hold what arrives at the unit at a place in a span
--     MayBeWoken machine place span unit      the unit at a place waits where the span begins, with some word
--     MayBeBroughtUp machine place now unit      the unit at a place waits where all units stand, with some word
--     links_taken machine place span links      the links when the unit at a place has taken what arrives in a span
--     GoesOnOver machine place span unit_with_word old new      a unit has gone on, and what it sent is added
--     WaitAllAt, WaitAllPast, HoldInboxesOver, links_taken_by, sent_over      the same of all units of a range
--     IsCountOf s counts      how many cores and channels a machine has
--     IsReceiver s link place, HasNoReceiver s link      the place of the unit that a link leads to; there is none
--     GrowsBy count old new      `count` elements are put at the end of a list
use Rattle.std.specs.Prelude.{◌≡◌, ℕ, ◌+◌, ◌<◌, false, List, length, filter, not}
use Rattle.sim_base.specs.declared.config.Config.{Config}
use Rattle.sim_base.specs.declared.message.Message.{Message}
use Rattle.sim_base.specs.History.{is_unit, receiver_of}
use Rattle.links.specs.InFlight.{InFlight, is_due}
use Rattle.units.specs.Flight.{sent_by}
use Rattle.units.specs.Units.{unit_at, unit_count}
use Rattle.units.specs.declared.machine.Machine.{Machine}
use Rattle.units.specs.Wakes.{UnitWithWord, Waits, WaitAll, HoldsInbox, HoldInboxes, AddsWhatItSent, links_after, unit_with_word}
use Rattle.units.specs.declared.timed_unit.TimedUnit.{TimedUnit}
use Rattle.units.specs.declared.timed_unit.Span.{Span}
use Rattle.units.specs.declared.waking.UnitRange.{UnitRange}
use Rattle.units.specs.declared.words.UnitCounts.{UnitCounts}

-- the unit at a place waits where a span begins
abbrev pub WaitsAt : Machine → ℕ → Span → UnitWithWord → Type 0
WaitsAt machine place span unit_with_word =
    Waits machine (unit_at machine.config place) span.here span.there unit_with_word

-- the unit at a place waits where all units stand
abbrev pub WaitsNow : Machine → ℕ → ℕ → UnitWithWord → Type 0
WaitsNow machine place now unit_with_word = Waits machine (unit_at machine.config place) now now unit_with_word

-- the unit at a place waits where a span begins, with some word
pub record MayBeWoken (machine : Machine) (place : ℕ) (span : Span) (unit : TimedUnit) : Type 0 where
  pub word : ℕ
  pub waits : WaitsAt machine place span (unit_with_word unit word)

-- the unit at a place waits where all units stand, with some word
pub record MayBeBroughtUp (machine : Machine) (place now : ℕ) (unit : TimedUnit) : Type 0 where
  pub word : ℕ
  pub waits : WaitsNow machine place now (unit_with_word unit word)

-- the links hold what arrives at the unit at a place up to the end of a span
abbrev pub HoldsInboxOver : Machine → ℕ → Span → InFlight → Type 0
HoldsInboxOver machine place span links =
    HoldsInbox machine span.here span.there span.until (unit_at machine.config place) links

-- the links when the unit at a place has taken what arrives at it in a span
abbrev pub links_taken : Machine → ℕ → Span → InFlight → InFlight
links_taken machine place span links =
    let taken = is_due machine.config.channels (unit_at machine.config place) span.here span.until in
    record links { messages = filter (λ m. not (taken m)) links.messages }

-- the unit at a place has gone on over a span, and what it sent is put at the end of a list
abbrev pub GoesOnOver : Machine → ℕ → Span → UnitWithWord → List Message → List Message → Type 0
GoesOnOver machine place span unit_with_word old new =
    AddsWhatItSent machine (unit_at machine.config place) span.here span.there span.until unit_with_word old new

-- the units of a range wait where a span begins
abbrev pub WaitAllAt : Machine → Span → UnitRange → Type 0
WaitAllAt machine span range =
    WaitAll machine range.first span.here span.there range.units.items range.words.items

-- the units of a range wait at the end of a span
abbrev pub WaitAllPast : Machine → Span → UnitRange → Type 0
WaitAllPast machine span range =
    WaitAll machine range.first span.until span.there range.units.items range.words.items

-- the links hold what arrives at the units of a range up to the end of a span
abbrev pub HoldInboxesOver : Machine → Span → UnitRange → InFlight → Type 0
HoldInboxesOver machine span range links =
    HoldInboxes machine range.first (length range.units.items) span.here span.there span.until links

-- the links when the units of a range have taken what arrives at them in a span
abbrev pub links_taken_by : Machine → Span → UnitRange → InFlight → InFlight
links_taken_by machine span range links =
    links_after machine.config span.here span.until range.first (length range.units.items) links

-- what the units of a range send in a span
abbrev pub sent_over : Machine → Span → UnitRange → List Message
sent_over machine span range = sent_by machine span.here span.until range.first (length range.units.items)

-- how many cores and channels a machine has
pub record IsCountOf (s : Config) (counts : UnitCounts) : Type 0 where
  pub cores : counts.cores ≡ s.cores
  pub channels : counts.channels ≡ s.channels

-- the unit that a link leads to stands at a place
abbrev pub IsReceiver : Config → ℕ → ℕ → Type 0
IsReceiver s link place = (place < unit_count s) × (unit_at s place ≡ receiver_of s.channels link)

-- a link leads to no unit of the machine
abbrev pub HasNoReceiver : Config → ℕ → Type 0
HasNoReceiver s link =
    (place : ℕ) → place < unit_count s → is_unit (receiver_of s.channels link) (unit_at s place) ≡ false

-- `count` elements are put at the end of a list
abbrev pub GrowsBy : {A : Type 0} → ℕ → List A → List A → Type 0
GrowsBy count old new = length new ≡ length old + count

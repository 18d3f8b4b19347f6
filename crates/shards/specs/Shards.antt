-- A machine whose units are shared out: a shard has those at places one after the other, and is run by one thread at
-- a time.
--     IsSplit s bounds      where each shard begins, and how many units there are
--     nth_shard shards index d      the shard with a number
--     IsShard machine bounds index shard      the shard with a number, of this machine
--     IsBetweenPhases machine now shard      a shard's units wait at a cycle, with what is in flight to them
--     IsBetweenPhasesAt machine first now shard      a shard's units wait at a cycle, at places from `first` on
--     IsRangeBetweenPhases machine now range links      a range's units wait at a cycle, with what is in flight to them
--     HasShardRun machine from until shard      a shard's units have gone over a phase
--     HasRangeRun machine from until range links      the units of a range have gone over a phase
--     AllAwake machine first now units      units at places from `first` on wait at a cycle, which is the word of each
--     links_among s first past ms, flight_to machine now first past      links that hold what goes to some units
--     HaveSent machine from until range sent      a list holds what the units of a range send in a span
--     sent_of_shard machine from until shard      what the units of a shard send in a span
--     AreFor machine from until shard lists      lists hold what was sent to the units of a shard in a span
--     AreFrom machine bounds from until shard lists      lists hold what a shard's units sent, by receiving shard
--     AddsUnits shard old new      there are as many units more as a shard has
--     IsOfMachine shard      the units and the links of a shard are those of its machine
--     ChangesOnlyMail old new      only the words of a shard's units, and what is in flight to them, have changed
--     HasEarlyWords shard      no word of a shard is later than the arrival of what is in flight to its unit
--     LowersWords lists old new      the words of a shard are lowered to what stands in lists
--     HasSent from until old new      a shard keeps what its units sent in a span
--     HoldWhatWasSent shard lists      lists hold what a shard keeps of what its units sent, by receiving shard
--     IsAtRest machine bounds index from until wake shard      a shard at the end of a phase
--     IsUpTo machine bounds index now shard inbound      a shard up to a cycle before which nothing more happens
--     AreShards machine bounds now shards      all shards of a machine, where it stands at a cycle
--     IsSharded machine bounds now phase wake shards inbound      what holds of all shards between two phases
use Rattle.std.specs.Prelude.{◌≡◌, ℕ, suc, ◌+◌, ◌-◌, ◌^◌, ◌<◌, ◌≤◌, List, [], fold, length, slice_index_or, All}
use Rattle.std.specs.Arc.{arc_value}
use Rattle.std.specs.declared.vec.Vec.{Vec}
use Rattle.std.specs.declared.alloc.Global.{Global}
use Rattle.std.specs.declared.boxed.Box.{Box}
use Rattle.sim_base.specs.declared.config.Config.{Config}
use Rattle.sim_base.specs.declared.message.Message.{Message}
use Rattle.sim_base.specs.History.{insert_by_age}
use Rattle.sim_base.specs.Locality.{TravelsFor}
use Rattle.links.specs.InFlight.{InFlight}
use Rattle.units.specs.Flight.{among, sent_by}
use Rattle.units.specs.Runs.{flight_at}
use Rattle.units.specs.Units.{unit_at, unit_count}
use Rattle.units.specs.declared.machine.Machine.{Machine}
use Rattle.units.specs.declared.part.UnitState.{UnitState}
use Rattle.units.specs.Wakes.{AreEarly, IsStill, HaveRun, AreBetweenPhases, Waits, sent_in, unit_with_word}
use Rattle.units.specs.declared.timed_unit.TimedUnit.{TimedUnit}
use Rattle.units.specs.declared.waking.UnitRange.{UnitRange}
use Rattle.shards.specs.declared.shard.Shard.{Shard}
use Rattle.shards.specs.Lists.{bound, lists_of, AreSortedByShard, LowersAll}

-- The first shard begins with the first unit, each ends where the next begins, and the last ends with the last unit.
pub record IsSplit (s : Config) (bounds : List ℕ) : Type 0 where
  pub some : 1 < length bounds
  pub begins : bound bounds 0 ≡ 0
  pub rises : (index : ℕ) → suc index < length bounds → bound bounds index ≤ bound bounds (suc index)
  pub ends : (index : ℕ) → suc index ≡ length bounds → bound bounds index ≡ unit_count s

-- the shard with a number; another, where there is none
abbrev pub nth_shard : List (Box Shard Global) → ℕ → Box Shard Global → Shard
nth_shard shards index d = (slice_index_or shards index d).value

-- the shard with number `index` of this machine, which has the units at its places
pub record IsShard (machine : Machine) (bounds : List ℕ) (index : ℕ) (shard : Shard) : Type 0 where
  pub machine_is : arc_value shard.machine ≡ machine
  pub bounds_are : shard.bounds.items ≡ bounds
  pub exists : suc index < length bounds
  pub first_is : shard.range.first ≡ bound bounds index
  pub past_is : shard.range.first + length shard.range.units.items ≡ bound bounds (suc index)

-- The units of a shard, at places from `first` on, wait at a cycle, each with its word, and its links hold just what is
-- in flight to them.
abbrev pub IsBetweenPhasesAt : Machine → ℕ → ℕ → Shard → Type 0
IsBetweenPhasesAt machine first now shard =
    AreBetweenPhases machine first now shard.range.units.items shard.range.words.items shard.traffic.links

-- the units of a range wait at a cycle, each with its word, and the links hold just what is in flight to them
abbrev pub IsRangeBetweenPhases : Machine → ℕ → UnitRange → InFlight → Type 0
IsRangeBetweenPhases machine now range links =
    AreBetweenPhases machine range.first now range.units.items range.words.items links

-- the units of a shard wait at a cycle, each with its word, and its links hold just what is in flight to them
abbrev pub IsBetweenPhases : Machine → ℕ → Shard → Type 0
IsBetweenPhases machine now shard = IsRangeBetweenPhases machine now shard.range shard.traffic.links

-- the units of a range have gone over a phase, and the links hold what was in flight to them before and arrives later
abbrev pub HasRangeRun : Machine → ℕ → ℕ → UnitRange → InFlight → Type 0
HasRangeRun machine from until range links =
    HaveRun machine range.first from until range.units.items range.words.items links

-- the units of a shard have gone over a phase, and its links hold what was in flight to them before and arrives later
abbrev pub HasShardRun : Machine → ℕ → ℕ → Shard → Type 0
HasShardRun machine from until shard = HasRangeRun machine from until shard.range shard.traffic.links

-- units at places from `first` on wait at cycle `now`, which is the word of each
abbrev pub AllAwake : Machine → ℕ → ℕ → List TimedUnit → Type 0
AllAwake machine first now units =
    (k : ℕ) (d : TimedUnit) → k < length units
    → Waits machine (unit_at machine.config (first + k)) now now (unit_with_word (slice_index_or units k d) now)

-- links that hold, of these messages, those to units at places from `first` up to `past`, put in by age
abbrev pub links_among : Config → ℕ → ℕ → List Message → InFlight
links_among s first past ms = record { channels = s.channels; messages = fold insert_by_age [] (among s first past ms) }

-- links that hold just what is in flight before a cycle of the run to units at places from `first` up to `past`
abbrev pub flight_to : Machine → ℕ → ℕ → ℕ → InFlight
flight_to machine now first past =
    record { channels = machine.config.channels; messages = among machine.config first past (flight_at machine now) }

-- what the units of a shard send in a span
abbrev pub sent_of_shard : Machine → ℕ → ℕ → Shard → List Message
sent_of_shard machine from until shard = sent_by machine from until shard.range.first (length shard.range.units.items)

-- a list holds what the units of a range send in a span
abbrev pub HaveSent : Machine → ℕ → ℕ → UnitRange → List Message → Type 0
HaveSent machine from until range sent = sent ≡ sent_by machine from until range.first (length range.units.items)

-- lists hold, of what all units sent in a span, what goes to those of a shard
abbrev pub AreFor : Machine → ℕ → ℕ → Shard → List (Vec Message Global) → Type 0
AreFor machine from until shard lists =
    lists_of lists
    ≡ among machine.config shard.range.first (shard.range.first + length shard.range.units.items)
    (sent_in machine from until)

-- the list with a number holds, of what the units of a shard sent in a span, what goes to those of the shard with
-- this number
pub record AreFrom (machine : Machine) (bounds : List ℕ) (from until : ℕ) (shard : Shard)
    (lists : List (Vec Message Global)) : Type 0 where
  pub count : suc (length lists) ≡ length bounds
  pub each : AreSortedByShard machine.config bounds (sent_of_shard machine from until shard) lists

-- there are as many units more as a shard has
abbrev pub AddsUnits : Shard → List UnitState → List UnitState → Type 0
AddsUnits shard old new = length new ≡ length old + length shard.range.units.items

-- The words of a shard are of units that its machine has, and its links are those of this machine.
pub record IsOfMachine (shard : Shard) : Type 0 where
  pub words : shard.range.first + length shard.range.words.items ≤ unit_count (arc_value shard.machine).config
  pub links : shard.traffic.links.channels ≡ (arc_value shard.machine).config.channels

-- a shard is the same but for the words of its units and what is in flight to them
abbrev pub ChangesOnlyMail : Shard → Shard → Type 0
ChangesOnlyMail old new =
    new ≡ record old {
      range = record old.range { words = new.range.words };
      traffic = record old.traffic { links = new.traffic.links };
    }

-- no word of a shard's units is later than the arrival of what is in flight to its unit
abbrev pub HasEarlyWords : Shard → Type 0
HasEarlyWords shard =
    AreEarly (arc_value shard.machine).config shard.range.first shard.range.words.items shard.traffic.links

-- the words of a shard's units are lowered to the arrivals of what stands in lists
abbrev pub LowersWords : List (Vec Message Global) → Shard → Shard → Type 0
LowersWords lists old new =
    LowersAll (arc_value old.machine).config old.range.first lists old.range.words.items new.range.words.items

-- a shard keeps what its units sent in a span
abbrev pub HasSent : ℕ → ℕ → Shard → Shard → Type 0
HasSent from until old new = new.traffic.sent.items ≡ sent_of_shard (arc_value old.machine) from until old

-- lists hold what a shard keeps of what its units sent, by the shard that it goes to
abbrev pub HoldWhatWasSent : Shard → List (Vec Message Global) → Type 0
HoldWhatWasSent shard lists =
    AreSortedByShard (arc_value shard.machine).config shard.bounds.items shard.traffic.sent.items lists

-- A shard at the end of a phase. Before cycle `wake` its units send nothing, and nothing that they sent arrives.
pub record IsAtRest (machine : Machine) (bounds : List ℕ) (index from until wake : ℕ) (shard : Shard) : Type 0 where
  pub is : IsShard machine bounds index shard
  pub has_run : HasShardRun machine from until shard
  pub since : until ≤ wake
  pub sleep : All (λ word. wake ≤ word) shard.range.words.items
  pub arrivals : All (λ m. wake ≤ m.arrival) (sent_of_shard machine from until shard)

-- A shard stands at the end of a phase, lists hold what was sent to its units in that phase, and nothing happens from
-- there on up to cycle `now`.
pub record IsUpTo (machine : Machine) (bounds : List ℕ) (index now : ℕ) (shard : Shard)
    (inbound : List (Vec Message Global)) : Type 0 where
  pub split : IsSplit machine.config bounds
  pub began : ℕ
  pub last : ℕ
  pub order : began ≤ last
  pub travels : TravelsFor machine.config (last - began)
  pub is : IsShard machine bounds index shard
  pub has_run : HasShardRun machine began last shard
  pub count : suc (length inbound) ≡ length bounds
  pub inbound_are : AreFor machine began last shard inbound
  pub since : last ≤ now
  pub early : now ≤ 10 ^ 12
  pub sleep : All (λ word. now ≤ word) shard.range.words.items
  pub arrivals : All (λ m. now ≤ m.arrival) (sent_in machine began last)
  pub still : IsStill machine last now

-- All shards of a machine, each with the units of its places, which wait, and with what is in flight to them.
pub record AreShards (machine : Machine) (bounds : List ℕ) (now : ℕ) (shards : List (Box Shard Global)) : Type 0 where
  pub split : IsSplit machine.config bounds
  pub count : suc (length shards) ≡ length bounds
  pub each : (index : ℕ) (d : Box Shard Global) → index < length shards
      → IsShard machine bounds index (nth_shard shards index d)
  pub between_phases : (index : ℕ) (d : Box Shard Global) → index < length shards
      → IsBetweenPhases machine now (nth_shard shards index d)

-- What holds of all shards of a machine between two phases: each is at rest, and what was sent to it stands in its
-- lists.
pub record IsSharded (machine : Machine) (bounds : List ℕ) (now phase wake : ℕ) (shards : List (Box Shard Global))
    (inbound : List (Vec (Vec Message Global) Global)) : Type 0 where
  pub counted : phase ≤ now
  pub early : now ≤ 10 ^ 12
  pub split : IsSplit machine.config bounds
  pub began : ℕ
  pub order : began ≤ now
  pub travels : TravelsFor machine.config (now - began)
  pub since : now ≤ wake
  pub count : suc (length shards) ≡ length bounds
  pub inbound_count : length inbound ≡ length shards
  pub rest : (index : ℕ) (d : Box Shard Global) → index < length shards
      → IsAtRest machine bounds index began now wake (nth_shard shards index d)
  pub lists : (index : ℕ) (d : Vec (Vec Message Global) Global) → index < length shards
      → suc (length (slice_index_or inbound index d).items) ≡ length bounds
  pub inbound_are : (index : ℕ) (d : Box Shard Global) (e : Vec (Vec Message Global) Global) → index < length shards
      → AreFor machine began now (nth_shard shards index d) (slice_index_or inbound index e).items

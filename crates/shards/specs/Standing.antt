-- Where a machine stands that is split into shards, or joined from them.
--     HoldsFlight snapshot      the messages are those in flight at the cycle
--     AreAwake snapshot first units      units at places from `first` on wait at the cycle, which is the word of each
--     AreShardsAt layout shards      all shards of the machine, where it stands
--     MayStopAt layout shards inbound      all shards may stop where the machine stands
--     ComesNext layout first shard      a shard's units, at places from `first` on, wait where the machine stands
--     AreBroughtUp layout parts      units stand where the machine does
--     flight_first layout past      links that hold just what is in flight to units before a place
use Rattle.std.specs.Prelude.{◌≡◌, ℕ, List}
use Rattle.std.specs.Arc.{arc_value}
use Rattle.std.specs.declared.vec.Vec.{Vec}
use Rattle.std.specs.declared.alloc.Global.{Global}
use Rattle.std.specs.declared.boxed.Box.{Box}
use Rattle.sim_base.specs.declared.message.Message.{Message}
use Rattle.links.specs.InFlight.{InFlight}
use Rattle.units.specs.Parts.{StandAt}
use Rattle.units.specs.Runs.{flight_at}
use Rattle.units.specs.declared.part.UnitState.{UnitState}
use Rattle.units.specs.declared.timed_unit.TimedUnit.{TimedUnit}
use Rattle.shards.specs.declared.shard.Shard.{Shard}
use Rattle.shards.specs.declared.split.Snapshot.{Snapshot}
use Rattle.shards.specs.declared.split.ShardLayout.{ShardLayout}
use Rattle.shards.specs.Phases.{MayStop}
use Rattle.shards.specs.Shards.{AllAwake, AreShards, IsBetweenPhasesAt, flight_to}

-- the messages of a snapshot are those in flight at its cycle
abbrev pub HoldsFlight : Snapshot → Type 0
HoldsFlight snapshot = snapshot.messages.items ≡ flight_at (arc_value snapshot.machine) snapshot.at

-- units at places from `first` on wait at the cycle of a snapshot, which is the word of each
abbrev pub AreAwake : Snapshot → ℕ → List TimedUnit → Type 0
AreAwake snapshot first units = AllAwake (arc_value snapshot.machine) first snapshot.at units

-- all shards of a machine, where it stands
abbrev pub AreShardsAt : ShardLayout → List (Box Shard Global) → Type 0
AreShardsAt layout shards = AreShards (arc_value layout.machine) layout.bounds.items layout.at shards

-- all shards of a machine may stop where it stands
abbrev pub MayStopAt : ShardLayout → List (Box Shard Global) → List (Vec (Vec Message Global) Global) → Type 0
MayStopAt layout shards inbound =
    MayStop (arc_value layout.machine) layout.bounds.items layout.at shards inbound

-- the units of a shard are at places from `first` on, and wait where the machine stands
abbrev pub ComesNext : ShardLayout → ℕ → Shard → Type 0
ComesNext layout first shard = IsBetweenPhasesAt (arc_value layout.machine) first layout.at shard

-- units stand at the cycle where the machine stands
abbrev pub AreBroughtUp : ShardLayout → List UnitState → Type 0
AreBroughtUp layout parts = StandAt (arc_value layout.machine) layout.at parts

-- links that hold just what is in flight to units before place `past`
abbrev pub flight_first : ShardLayout → ℕ → InFlight
flight_first layout past = flight_to (arc_value layout.machine) layout.at 0 past

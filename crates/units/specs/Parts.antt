-- What the units of a simulator stand for, each for its part of one run.
--     IsPart machine unit now part      a unit stands for its part of the first cycles of a run
--     IsReadyFor machine unit part inbox from until      a unit stands for its part, and is sent these messages
--     IsReady part inbox from until      a unit stands for its part of some run, and these messages arrive in a span
--     HasRun machine unit from until part messages      a unit stands at the end of a span, and sent these in it
--     HasRunOnto machine unit from until part held holds      a unit has run, and its messages are put behind a list
--     IsPartAt machine place now part      the unit at a place stands for its part of a run
--     StandAt machine now parts      units in their order stand for their parts
--     IsSim machine now phase parts links      what holds of a simulator
use Rattle.std.specs.Prelude.{◌≡◌, ℕ, ◌^◌, ◌≤◌, List, ◌++◌, length, slice_get, Some, IfSome}
use Rattle.sim_base.specs.declared.message.Message.{Message}
use Rattle.sim_base.specs.declared.message.Unit.{Unit as MachineUnit}
use Rattle.sim_base.specs.declared.message.Unit.TheVariants as unit
use Rattle.core_window.specs.CoreViews.{view_of}
use Rattle.units.specs.SpanLaws.Cores.{IsCoreAt}
use Rattle.units.specs.SpanLaws.Mail.{mail_in}
use Rattle.units.specs.SpanLaws.Units.{Exists}
use Rattle.links.specs.InFlight.{InFlight}
use Rattle.units.specs.Runs.{HasChannelAt, commands_at, links_at, sent_at}
use Rattle.units.specs.Units.{unit_count, unit_at}
use Rattle.units.specs.declared.machine.Machine.{Machine}
use Rattle.units.specs.declared.part.UnitState.{UnitState}
use Rattle.units.specs.declared.part.UnitState.TheVariants as part

-- A unit stands for what the one with this number did in the cycles of a run before `now`. With a channel its commands
-- may be kept.
abbrev pub IsPart : Machine → MachineUnit → ℕ → UnitState → Type 0
IsPart machine (unit.Core core) now (part.Core c) =
    IsCoreAt machine.config machine.traces.items core now (view_of c.value)
IsPart machine (unit.Channel channel) now (part.Channel c commands) =
    HasChannelAt machine channel now c.value × IfSome commands (λ rows. rows ≡ commands_at machine now channel)
IsPart machine (unit.Core core) now (part.Channel c commands) = ⊥
IsPart machine (unit.Channel channel) now (part.Core c) = ⊥

-- A unit of a machine stands for its part of a run at the beginning of a span. The messages are those that arrive at
-- it in the span.
pub record IsReadyFor (machine : Machine) (unit : MachineUnit) (part : UnitState) (inbox : List Message)
    (from until : ℕ) : Type 0 where
  pub exists : Exists machine.config unit
  pub order : from ≤ until
  pub early : until ≤ 10 ^ 12
  pub stands : IsPart machine unit from part
  pub mail : inbox ≡ mail_in machine.config machine.traces.items until unit from until

-- A unit of some machine stands for its part of a run at the beginning of a span. The messages are those that arrive at
-- it in the span.
pub record IsReady (part : UnitState) (inbox : List Message) (from until : ℕ) : Type 0 where
  pub machine : Machine
  pub unit : MachineUnit
  pub ready : IsReadyFor machine unit part inbox from until

-- A unit of a machine stands for its part of a run at the end of a span. The messages are those that it sends in the
-- span.
pub record HasRun (machine : Machine) (unit : MachineUnit) (from until : ℕ) (part : UnitState) (messages : List Message)
    : Type 0 where
  pub exists : Exists machine.config unit
  pub stands : IsPart machine unit until part
  pub sent : sent_at machine until unit ≡ sent_at machine from unit ++ messages

-- A unit of a machine stands for its part of a run at the end of a span. What it sends in the span is put behind what a
-- list held before.
pub record HasRunOnto (machine : Machine) (unit : MachineUnit) (from until : ℕ) (part : UnitState)
    (held holds : List Message) : Type 0 where
  pub messages : List Message
  pub behind : holds ≡ held ++ messages
  pub ran : HasRun machine unit from until part messages

-- the unit at a place stands for its part of a run
abbrev pub IsPartAt : Machine → ℕ → ℕ → UnitState → Type 0
IsPartAt machine place now part = IsPart machine (unit_at machine.config place) now part

-- units in their order stand for their parts of a run
abbrev pub StandAt : Machine → ℕ → List UnitState → Type 0
StandAt machine now parts =
    (place : ℕ) (part : UnitState) → slice_get parts place ≡ Some part → IsPartAt machine place now part

-- All units stand for their part of the first cycles of a run, and the messages in flight are those of this run.
pub record IsSim (machine : Machine) (now phase : ℕ) (parts : List UnitState) (links : InFlight) : Type 0 where
  pub counted : phase ≤ now
  pub early : now ≤ 10 ^ 12
  pub count : length parts ≡ unit_count machine.config
  pub stand : StandAt machine now parts
  pub flight : links ≡ links_at machine now

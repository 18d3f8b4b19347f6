-- A simulator whose units stand at cycles of their own.
--     IsTimedSim machine now phase kinds links      what holds of such a simulator
use Rattle.std.specs.Prelude.{◌≡◌, ℕ, ◌≤◌, length}
use Rattle.links.specs.InFlight.{InFlight}
use Rattle.units.specs.Units.{unit_count}
use Rattle.units.specs.declared.machine.Machine.{Machine}
use Rattle.in_place.specs.Turns.{AllBetweenPhases, AreByKind, all_units}
use Rattle.in_place.specs.declared.taking_turns.UnitsByKind.{UnitsByKind}

-- All units of a simulator wait, each where it stands, and the links hold what is in flight.
pub record IsTimedSim (machine : Machine) (now phase : ℕ) (kinds : UnitsByKind) (links : InFlight) : Type 0 where
  pub counted : phase ≤ now
  pub by_kind : AreByKind machine kinds
  pub count : length (all_units kinds) ≡ unit_count machine.config
  pub between_phases : AllBetweenPhases machine now kinds links

-- When a unit acts next, as it tells.
--     IsFirstActOf machine unit from act      a unit acts first in a cycle, if nothing arrives
--     IsNextActOf machine unit from act      the first cycle in which a unit acts, if there is one
--     MayRest machine from until unit      a unit would do nothing in a span, if nothing arrived at it
--     SendsNothing machine from until unit      a unit would send nothing in a span, if nothing arrived at it
use Rattle.std.specs.Prelude.{ℕ, suc, ◌≤◌, Option, Some, None}
use Rattle.sim_base.specs.declared.message.Unit.{Unit as MachineUnit}
use Rattle.units.specs.SpanLaws.Quiet.{RestsAlone, IsSilent}
use Rattle.units.specs.declared.machine.Machine.{Machine}

-- if nothing arrived from `from` on, a unit would do nothing before `until`
abbrev pub MayRest : Machine → ℕ → ℕ → MachineUnit → Type 0
MayRest machine from until unit = RestsAlone machine.config machine.traces.items from until unit

-- if nothing arrived from `from` on, a unit would send nothing before `until`; a core may retire and issue Plain
-- entries, and a channel may issue commands other than RD and WR
abbrev pub SendsNothing : Machine → ℕ → ℕ → MachineUnit → Type 0
SendsNothing machine from until unit = IsSilent machine.config machine.traces.items from until unit

-- if nothing arrives from `from` on, a unit would do nothing before `act`, and something in `act`
pub record IsFirstActOf (machine : Machine) (unit : MachineUnit) (from act : ℕ) : Type 0 where
  pub since : from ≤ act
  pub rests : (until : ℕ) → from ≤ until → until ≤ act → MayRest machine from until unit
  pub acts : MayRest machine from (suc act) unit → ⊥

-- the first cycle in which a unit acts, if nothing arrives from a cycle on; none, where it never does
abbrev pub IsNextActOf : Machine → MachineUnit → ℕ → Option ℕ → Type 0
IsNextActOf machine unit from (Some act) = IsFirstActOf machine unit from act
IsNextActOf machine unit from None = (until : ℕ) → from ≤ until → MayRest machine from until unit

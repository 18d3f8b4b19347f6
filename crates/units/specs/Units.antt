-- The units of a machine in one order, the cores first and then the channels, each by number.
--     unit_count s      how many units a machine has
--     unit_at s place      the unit at a place, cores first
use Rattle.std.specs.Prelude.{ℕ, ◌+◌, ◌-◌, nat_lt, if◌then◌else◌}
use Rattle.sim_base.specs.declared.config.Config.{Config}
use Rattle.sim_base.specs.declared.message.Unit.{Unit as MachineUnit}
use Rattle.sim_base.specs.declared.message.Unit.TheVariants.{Core, Channel}

-- how many units a machine has
abbrev pub unit_count : Config → ℕ
unit_count s = s.cores + s.channels

-- the unit at a place: the cores come first, and then the channels
abbrev pub unit_at : Config → ℕ → MachineUnit
unit_at s place = if nat_lt place s.cores then Core place else Channel (place - s.cores)

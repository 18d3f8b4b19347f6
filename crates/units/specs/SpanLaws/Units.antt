-- The units of a machine, and what each sends in a run.
--     Exists s unit      a machine has this unit
--     sent_of s traces n unit      what a unit sends in the first cycles of a run
use Rattle.std.specs.Prelude.{ℕ, ◌<◌, List}
use Rattle.sim_base.specs.declared.config.Config.{Config}
use Rattle.sim_base.specs.History.{messages_of_core, messages_of_channel}
use Rattle.sim_base.specs.Machine.{run}
use Rattle.sim_base.specs.declared.message.Message.{Message}
use Rattle.sim_base.specs.declared.message.Unit.{Unit as MachineUnit}
use Rattle.sim_base.specs.declared.message.Unit.TheVariants.{Core, Channel}
use Rattle.sim_base.specs.declared.trace.Entry.{Entry}

-- a machine has a unit with this number
abbrev pub Exists : Config → MachineUnit → Type 0
Exists s (Core core) = core < s.cores
Exists s (Channel channel) = channel < s.channels

-- what a unit sends in the first n cycles of a run
abbrev pub sent_of : Config → List (List Entry) → ℕ → MachineUnit → List Message
sent_of s traces n (Core core) = messages_of_core s traces (run s traces n) core
sent_of s traces n (Channel channel) = messages_of_channel s (run s traces n) channel

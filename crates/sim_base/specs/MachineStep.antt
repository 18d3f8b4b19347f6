-- What the whole machine did in a cycle.
--     MachineStep      what each core and each channel did
--     step_of_core core step, step_of_channel channel step      what one of them did
use Rattle.std.specs.Prelude.{ℕ, List, slice_index_or, Option, None}
use Rattle.sim_base.specs.declared.command.Command.{Command}
use Rattle.sim_base.specs.declared.history.CoreStep.{CoreStep}

-- what each core and each channel did in a cycle
pub record MachineStep : Type 0 where
  pub cores : List CoreStep
  pub commands : List (Option Command)

-- what a core did; nothing, where there is no such core
abbrev pub step_of_core : ℕ → MachineStep → CoreStep
step_of_core core step = slice_index_or step.cores core (record { retired = 0; issued = 0 })

-- the command of a channel; none, where there is no such channel
abbrev pub step_of_channel : ℕ → MachineStep → Option Command
step_of_channel channel step = slice_index_or step.commands channel None

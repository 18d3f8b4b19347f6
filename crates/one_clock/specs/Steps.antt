-- What one core does in a cycle of the run, and why it stops issuing; and entries by kind, where there may be none.
--     core_step_of s traces history core      what a core of the machine does in the cycle after a history
--     accesses access entry      an entry that reads memory, or one that writes it
use Rattle.std.specs.Prelude.{ℕ, Bool, false, List, Option, Some, None}
use Rattle.sim_base.specs.declared.config.Config.{Config}
use Rattle.sim_base.specs.Counts.{is_read, is_write}
use Rattle.sim_base.specs.History.{trace_of, steps_of_core, inbox}
use Rattle.sim_base.specs.MachineStep.{MachineStep}
use Rattle.sim_base.specs.Windows.{step}
use Rattle.sim_base.specs.declared.history.CoreStep.{CoreStep}
use Rattle.sim_base.specs.declared.message.Access.{Access}
use Rattle.sim_base.specs.declared.message.Access.TheVariants.{Read, Write}
use Rattle.sim_base.specs.declared.message.Unit.TheVariants.{Core}
use Rattle.sim_base.specs.declared.trace.Entry.{Entry}
use Rattle.sim_base.specs.declared.trace.Stop.{Stop}

-- what a core of the machine does in the cycle after a history, and why it stops
unfoldable pub core_step_of : Config → List (List Entry) → List MachineStep → ℕ → CoreStep × Stop
core_step_of s traces history core =
    step s core (trace_of traces core) (steps_of_core core history) (inbox s traces history (Core core))

-- an entry that reads memory, or one that writes it, where there may be none
abbrev pub accesses : Access → Option Entry → Bool
accesses Read (Some entry) = is_read entry
accesses Write (Some entry) = is_write entry
accesses _ None = false

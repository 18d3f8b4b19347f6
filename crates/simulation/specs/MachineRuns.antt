-- What a run leaves, and why it is not brought to its end.
--     outcome_of_machine options machine      what the run of a machine leaves, with these options
--     outcome_with options input      what the run of a configuration and traces leaves, with these options
--     IsOfHost fault      the host refused: memory, or a worker's start
--     IsRefusedTo workers fault      the host refused this number of workers
use Rattle.std.specs.Prelude.{◌≡◌, ◌⊎◌, ℕ, ◌≤◌}
use Rattle.statistics.specs.Outcomes.{outcome_within}
use Rattle.statistics.specs.Values.{RunOutcome}
use Rattle.sim_base.specs.declared.fault.Fault.{Fault}
use Rattle.units.specs.declared.machine.Machine.{Machine}
use Rattle.simulation.specs.declared.options.MachineInput.{MachineInput}
use Rattle.simulation.specs.declared.options.RunOptions.{RunOptions}
use Rattle.sim_base.specs.declared.fault.Fault.TheVariants.{Memory, WorkerStart}

-- what the run of a machine over its traces leaves, when it is run with these options
abbrev pub outcome_of_machine : RunOptions → Machine → RunOutcome
outcome_of_machine options machine = outcome_within options.tables machine.config machine.traces.items options.cycles

-- what the run of a configuration and a trace for each core leaves, when it is run with these options
abbrev pub outcome_with : RunOptions → MachineInput → RunOutcome
outcome_with options input = outcome_within options.tables input.config.now input.traces.items options.cycles

-- the host refused memory, or to start a worker
abbrev pub IsOfHost : Fault → Type 0
IsOfHost fault = (fault ≡ Memory) ⊎ (fault ≡ WorkerStart)

-- the host refused; a worker's start only where there are several workers, since one is the caller
abbrev pub IsRefusedTo : ℕ → Fault → Type 0
IsRefusedTo workers fault = IsOfHost fault × (fault ≡ WorkerStart → 2 ≤ workers)

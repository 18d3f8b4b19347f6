-- What a user may rely on in the outcome of a run.
--     HoldsUnder config law outcome      a law holds of an outcome, under the configuration that the document states
--     HoldsUnderRead machine options law outcome      a law holds of an outcome, whatever bytes were read
use Rattle.std.specs.Prelude.{◌≡◌, ℕ, List, Ok}
use Rattle.simulation.specs.Runs.{HoldsOfInput}
use Rattle.sim_base.specs.declared.config.Config.{Config}
use Rattle.sim_base.specs.Values.{values_of}
use Rattle.config_reader.specs.Document.{document_of}
use Rattle.statistics.specs.Values.{RunOutcome}
use Rattle.simulation.specs.declared.options.MachineInput.{MachineInput}
use Rattle.simulation.specs.declared.options.RunOptions.{RunOptions}

-- a law holds of an outcome, under the configuration that the document states
pub record HoldsUnder (config : List ℕ) (law : Config → RunOutcome → Type 0) (outcome : RunOutcome) : Type 0 where
  pub machine : Config
  pub configured : document_of config ≡ Ok (values_of machine)
  pub holds : law machine outcome

-- a law holds of an outcome under the configuration, whatever bytes a machine and its traces were read from
abbrev pub HoldsUnderRead : MachineInput → RunOptions → (Config → RunOutcome → Type 0) → RunOutcome → Type 0
HoldsUnderRead machine options law outcome =
    HoldsOfInput options.cycles options.workers.count machine.config.now machine.traces.items
    (λ config texts. HoldsUnder config law) outcome

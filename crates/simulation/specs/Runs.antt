-- What a run over the bytes of a configuration and of traces gives, and why it is refused.
--     traces_of core texts      the entries of traces, of which the first is that of this core
--     limits_of cores texts cycles workers      one trace per core, and workers and cycles in range, or the fault
--     input_of config texts cycles workers      the entries of all traces, or the first fault of a run's input
--     IsTraceFault core text fault, IsTracesFault texts fault      why a trace, or one of them, is refused
--     IsInputFault config texts cycles workers fault      why input is refused, where it is not for memory
--     PassesTests config texts cycles workers traces      input passes all tests
--     IsInput config texts cycles workers machine traces      a machine and its traces are what these bytes mean
--     HoldsOfInput cycles workers machine traces law outcome      a law holds of whatever bytes these were read from
--     IsRefusal config texts cycles workers fault      why a run with these workers is refused
--     IsRunOf config texts cycles workers tables outcome      what the one-clock machine did and left
--     HoldsOfRun config texts cycles workers tables law outcome      the outcome is that of a run, of which a law holds
--     IsRunOfInput machine options outcome      the outcome is that of a run, whatever bytes the input was read from
--     IsJudgedOfInput machine options outcome      the run of an input is judged legal, whatever bytes it was read from
--     HoldsOfRead machine options law outcome      a law holds of the run of an input, whatever bytes it was read from
--     IsLegalRun s traces n      `check` finds the table of the commands of a run legal
--     IsJudgedLegal config texts cycles workers tables outcome      `check` finds the commands of this run legal
--     IsRun, IsLegal, Keeps law, IsRefused      the run, its verdict, a law and a refusal, of an input with its options
use Rattle.std.specs.Prelude.{◌≡◌, ◌≢◌, ◌⊎◌, ℕ, ◌+◌, ◌≤◌, ◌==◌, nat_le, Bool, ◌&&◌, List, [], ◌∷◌, length, Result, Ok, Err, IsOk, if◌then◌else◌}
use Rattle.sim_base.specs.declared.config.Config.{Config}
use Rattle.sim_base.specs.declared.fault.Fault.{Fault}
use Rattle.sim_base.specs.declared.fault.Fault.TheVariants.{TraceCount, Workers, Cycles, Memory, WorkerStart}
use Rattle.sim_base.specs.declared.trace.Entry.{Entry}
use Rattle.config_reader.specs.Document.{document_of}
use Rattle.sim_base.specs.Values.{values_of}
use Rattle.sim_base.specs.TraceText.{◌>>=◌, trace_answer}
use Rattle.sim_base.specs.History.{commands}
use Rattle.sim_base.specs.Machine.{run, cycles_run}
use Rattle.statistics.specs.Outcomes.{outcome_of}
use Rattle.statistics.specs.Values.{RunOutcome}
use Rattle.statistics.specs.declared.tables.Tables.{Tables}
use Rattle.simulation.specs.declared.input.InputTexts.{InputTexts}
use Rattle.simulation.specs.declared.options.MachineInput.{MachineInput}
use Rattle.simulation.specs.declared.options.RunOptions.{RunOptions}
use Rattle.reports.specs.Commands.{commands_text}
use Rattle.rule_check.specs.Verdict.{records_of, verdict}
use Rattle.rule_check.specs.declared.verdict.Verdict.TheVariants.{Legal}
use Rattle.sim_base.specs.Texts.{texts_of}

-- a fault, where a test is not passed
abbrev pub unless : Bool → Fault → Result (Unit {0}) Fault
unless passed fault = if passed then Ok tt else Err fault

-- the entries of traces, of which the first is that of this core, or the first fault of one
unfoldable pub traces_of : ℕ → List (List ℕ) → Result (List (List Entry)) Fault
traces_of core [] = Ok []
traces_of core (text ∷ texts) = do
  first ← trace_answer core text
  others ← traces_of (core + 1) texts
  Ok (first ∷ others)

-- what is tested between the configuration and the traces: one trace per core, 1 to 64 workers, and at most 10^12
-- cycles
unfoldable pub limits_of : ℕ → ℕ → ℕ → ℕ → Result (Unit {0}) Fault
limits_of cores texts cycles workers = do
  _ ← unless (texts == cores) TraceCount
  _ ← unless (nat_le 1 workers && nat_le workers 64) Workers
  unless (nat_le cycles 1000000000000) Cycles

-- the tests of a run's input, in their order: the configuration, the limits, and then the traces by core
unfoldable pub input_of : List ℕ → List (List ℕ) → ℕ → ℕ → Result (List (List Entry)) Fault
input_of config texts cycles workers = do
  values ← document_of config
  _ ← limits_of values.cores (length texts) cycles workers
  traces_of 0 texts

-- a trace is refused, if not for memory, for the first fault that its text has as that of this core
abbrev pub IsTraceFault : ℕ → List ℕ → Fault → Type 0
IsTraceFault core text fault = fault ≢ Memory → trace_answer core text ≡ Err fault

-- traces are refused, if not for memory, for the first fault that their texts have
abbrev pub IsTracesFault : List (List ℕ) → Fault → Type 0
IsTracesFault texts fault = fault ≢ Memory → traces_of 0 texts ≡ Err fault

-- input is refused, if not for memory, for the first fault that its tests find
abbrev pub IsInputFault : List ℕ → List (List ℕ) → ℕ → ℕ → Fault → Type 0
IsInputFault config texts cycles workers fault = fault ≢ Memory → input_of config texts cycles workers ≡ Err fault

-- the input passes all tests, and these are the entries of its traces
abbrev pub PassesTests : List ℕ → List (List ℕ) → ℕ → ℕ → List (List Entry) → Type 0
PassesTests config texts cycles workers traces = input_of config texts cycles workers ≡ Ok traces

-- the machine is what the document states, and the traces are what the texts mean, which pass all tests
pub record IsInput (config : List ℕ) (texts : List (List ℕ)) (cycles workers : ℕ) (machine : Config)
    (traces : List (List Entry)) : Type 0 where
  pub configured : document_of config ≡ Ok (values_of machine)
  pub traces_are : traces_of 0 texts ≡ Ok traces
  pub read : input_of config texts cycles workers ≡ Ok traces

-- whatever bytes a machine and its traces were read from, a law holds of these and an outcome
abbrev pub HoldsOfInput : ℕ → ℕ → Config → List (List Entry) → (List ℕ → List (List ℕ) → RunOutcome → Type 0)
    → RunOutcome → Type 0
HoldsOfInput cycles workers machine traces law outcome =
    (config : List ℕ) (texts : List (List ℕ)) → IsInput config texts cycles workers machine traces
    → law config texts outcome

-- Memory was refused; or this is the first fault of the input; or the input has none, and one of several workers was
-- not started.
abbrev pub IsRefusal : List ℕ → List (List ℕ) → ℕ → ℕ → Fault → Type 0
IsRefusal config texts cycles workers fault =
    (fault ≡ Memory)
    ⊎ (input_of config texts cycles workers ≡ Err fault)
    ⊎ ((fault ≡ WorkerStart) × (2 ≤ workers) × IsOk (input_of config texts cycles workers))

-- The configuration is what the document states, the traces are what the texts mean, and the outcome is that of the
-- machine that advances every core, link and channel one cycle at a time, up to the limit or, where the configuration
-- ends runs drained, until all is done: its commands and its requests, if their tables are asked for, what it counted,
-- and the state before the next cycle.
pub record IsRunOf (config : List ℕ) (texts : List (List ℕ)) (cycles workers : ℕ) (tables : Tables)
    (outcome : RunOutcome) : Type 0 where
  pub machine : Config
  pub traces : List (List Entry)
  pub configured : document_of config ≡ Ok (values_of machine)
  pub read : input_of config texts cycles workers ≡ Ok traces
  pub outcome_is : outcome ≡ outcome_of tables machine traces (cycles_run machine traces cycles)

-- The outcome is that of a run, and a law holds of its machine, its traces and its cycles, whatever tables were asked
-- for.
pub record HoldsOfRun (config : List ℕ) (texts : List (List ℕ)) (cycles workers : ℕ) (tables : Tables)
    (law : Config → List (List Entry) → ℕ → Type 0) (outcome : RunOutcome) : Type 0 where
  pub run_is : IsRunOf config texts cycles workers tables outcome
  pub holds : law run_is.machine run_is.traces outcome.stats.cycles

-- `check` finds the text of the table of the commands of a run of n cycles legal
abbrev pub IsLegalRun : Config → List (List Entry) → ℕ → Type 0
IsLegalRun s traces n = verdict s (records_of (commands_text s.ranks (commands (run s traces n)))) ≡ Ok Legal

-- Under the configuration that the document states, `check` finds the text of the table of the commands of the run
-- legal.
abbrev pub IsJudgedLegal : List ℕ → List (List ℕ) → ℕ → ℕ → Tables → RunOutcome → Type 0
IsJudgedLegal config texts cycles workers tables outcome =
    HoldsOfRun config texts cycles workers tables IsLegalRun outcome

-- Whatever bytes a machine and its traces were read from, the outcome is that of a run over these bytes.
abbrev pub IsRunOfInput : MachineInput → RunOptions → RunOutcome → Type 0
IsRunOfInput machine options outcome =
    HoldsOfInput options.cycles options.workers.count machine.config.now machine.traces.items
    (λ config texts. IsRunOf config texts options.cycles options.workers.count options.tables) outcome

-- whatever bytes a machine and its traces were read from, `check` finds the table of the run's commands legal
abbrev pub IsJudgedOfInput : MachineInput → RunOptions → RunOutcome → Type 0
IsJudgedOfInput machine options outcome =
    HoldsOfInput options.cycles options.workers.count machine.config.now machine.traces.items
    (λ config texts. IsJudgedLegal config texts options.cycles options.workers.count options.tables) outcome

-- whatever bytes a machine and its traces were read from, a law holds of the machine, the traces and the cycles of the
-- run
abbrev pub HoldsOfRead : MachineInput → RunOptions → (Config → List (List Entry) → ℕ → Type 0) → RunOutcome → Type 0
HoldsOfRead machine options law outcome =
    HoldsOfInput options.cycles options.workers.count machine.config.now machine.traces.items
    (λ config texts. HoldsOfRun config texts options.cycles options.workers.count options.tables law) outcome

-- the outcome is that of a run of an input with these options: what the one-clock machine did and left
abbrev pub IsRun : InputTexts → RunOptions → RunOutcome → Type 0
IsRun input options outcome =
    IsRunOf input.config.now (texts_of input.traces.now) options.cycles options.workers.count options.tables outcome

-- `check` finds the table of the commands of a run of an input legal
abbrev pub IsLegal : InputTexts → RunOptions → RunOutcome → Type 0
IsLegal input options outcome =
    IsJudgedLegal input.config.now (texts_of input.traces.now) options.cycles options.workers.count options.tables
    outcome

-- a law holds of the machine, the traces and the cycles of a run of an input
abbrev pub Keeps : InputTexts → RunOptions → (Config → List (List Entry) → ℕ → Type 0) → RunOutcome → Type 0
Keeps input options law outcome =
    HoldsOfRun input.config.now (texts_of input.traces.now) options.cycles options.workers.count options.tables law
    outcome

-- why a run of an input with these options is refused
abbrev pub IsRefused : InputTexts → RunOptions → Fault → Type 0
IsRefused input options fault =
    IsRefusal input.config.now (texts_of input.traces.now) options.cycles options.workers.count fault

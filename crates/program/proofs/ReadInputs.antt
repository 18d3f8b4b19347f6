-- A run whose input was read: its outcome, and why its host refuses it.
use Rattle.std.proofs.Common.{◌≡◌, ◌⊎◌, inl, inr, ℕ, List, [], ◌∷◌, Result, Ok, Err, IfOk}
use Rattle.sim_base.specs.declared.config.Config.{Config}
use Rattle.sim_base.specs.declared.fault.Fault.{Fault}
use Rattle.sim_base.specs.declared.fault.Fault.TheVariants.{Memory, WorkerStart}
use Rattle.sim_base.specs.declared.trace.Entry.{Entry}
use Rattle.statistics.specs.Values.{RunOutcome}
use Rattle.statistics.specs.declared.tables.Tables.{Tables}
use Rattle.simulation.specs.Runs.{HoldsOfInput, IsRunOf, IsJudgedLegal}
use Rattle.simulation.specs.MachineRuns.{IsRefusedTo}
use Rattle.whole_files.specs.Files.{Held}
use Rattle.answers.specs.Refused.{AreTexts, IsReady, IsAnswerFault}
use Rattle.program.specs.Answered.{IsInputOf, IsOutcome}
use Rattle.program.specs.Refused.{IsRunFault, IsRightRun}

-- the outcome of a run over what the named files mean
pub outcome_read : (tells : Type 0) (config : List ℕ) (cycles workers : ℕ) (tables : Tables) (paths : List (List ℕ)) (held : Held) (machine : Config) (traces : List (List Entry)) (r : Result RunOutcome Fault)
    → (tells → IsInputOf config cycles workers paths held machine traces)
    → IfOk r (HoldsOfInput cycles workers machine traces (λ document texts. IsRunOf document texts cycles workers tables))
    → IfOk r (HoldsOfInput cycles workers machine traces (λ document texts. IsJudgedLegal document texts cycles workers tables))
    → IfOk r (λ run. tells → IsOutcome config cycles workers tables paths held run)
outcome_read tells config cycles workers tables paths held machine traces (Ok run) read ran legal = λ told.
    let given = read told in
    record {
      document = given.document;
      texts = given.texts;
      config_is = given.config_is;
      traces_are = given.traces_are;
      run_is = ran given.document given.texts given.input;
      legal = legal given.document given.texts given.input;
    }
outcome_read tells config cycles workers tables paths held machine traces (Err fault) read ran legal = ran

-- a run is refused by its host whose input is right
pub host_refused : (tells : Type 0) (held : Held) (paths : List (List ℕ)) (cycles workers : ℕ) (fault : Fault)
    → IsReady tells held paths (IsRightRun cycles workers) → IsRefusedTo workers fault
    → IsAnswerFault tells held paths (IsRunFault cycles workers) (IsRightRun cycles workers) fault
host_refused tells held paths cycles workers fault ready refused = by ready.texts ready.read ready.right refused.0
  where
    by : (texts : List (List ℕ)) → AreTexts tells held paths texts → IsRightRun cycles workers texts → (fault ≡ Memory) ⊎ (fault ≡ WorkerStart)
        → IsAnswerFault tells held paths (IsRunFault cycles workers) (IsRightRun cycles workers) fault
    by [] read right why = absurd right
    by (document ∷ texts) read right (inl memory) = inl (inr (record { texts = document ∷ texts; read = read; fault_is = inl memory }))
    by (document ∷ texts) read right (inr start) = inl (inr (record { texts = document ∷ texts; read = read; fault_is = inr (inr (start, refused.1 start, right)) }))

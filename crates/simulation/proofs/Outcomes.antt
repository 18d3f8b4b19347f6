-- The outcome of a machine over what was read.
use Rattle.std.proofs.Common.{◌≡◌, ℕ, List, Result, Ok, Err, IfOk, sym, ap, subst, ◌∙◌}
use Rattle.sim_base.specs.declared.config.Config.{Config}
use Rattle.sim_base.specs.declared.fault.Fault.{Fault}
use Rattle.sim_base.specs.declared.trace.Entry.{Entry}
use Rattle.config_reader.specs.Document.{document_of}
use Rattle.sim_base.specs.Values.{values_of}
use Rattle.sim_base.specs.Machine.{cycles_run}
use Rattle.statistics.specs.Outcomes.{outcome_of}
use Rattle.statistics.specs.Values.{RunOutcome}
use Rattle.statistics.specs.declared.tables.Tables.{Tables}
use Rattle.run_tables.proofs.TableLaws.Lawful.{cycles_are}
use Rattle.simulation.specs.Outcomes.{HoldsUnder}
use Rattle.simulation.specs.Runs.{input_of, IsRunOf, HoldsOfRun}

pub run-of : (config : List ℕ) (texts : List (List ℕ)) (cycles workers : ℕ) (tables : Tables) (s : Config) (traces : List (List Entry)) (r : Result RunOutcome Fault)
    → document_of config ≡ Ok (values_of s) → input_of config texts cycles workers ≡ Ok traces
    → IfOk r (λ o. o ≡ outcome_of tables s traces (cycles_run s traces cycles)) → IfOk r (IsRunOf config texts cycles workers tables)
run-of config texts cycles workers tables s traces (Ok o) configured read h =
    record { machine = s; traces = traces; configured = configured; read = read; outcome_is = h }
run-of config texts cycles workers tables s traces (Err e) configured read h = h

-- a law of all runs
pub holds-of : (config : List ℕ) (texts : List (List ℕ)) (cycles workers : ℕ) (tables : Tables) (s : Config) (traces : List (List Entry)) (law : Config → List (List Entry) → ℕ → Type 0) (r : Result RunOutcome Fault)
    → document_of config ≡ Ok (values_of s) → input_of config texts cycles workers ≡ Ok traces → law s traces (cycles_run s traces cycles)
    → IfOk r (λ o. o ≡ outcome_of tables s traces (cycles_run s traces cycles)) → IfOk r (HoldsOfRun config texts cycles workers tables law)
holds-of config texts cycles workers tables s traces law (Ok o) configured read holds h =
    record {
      run_is = record { machine = s; traces = traces; configured = configured; read = read; outcome_is = h };
      holds = subst (law s traces) (sym (ap (λ (x : RunOutcome). x.stats.cycles) h ∙ cycles_are tables s traces (cycles_run s traces cycles))) holds;
    }
holds-of config texts cycles workers tables s traces law (Err e) configured read holds h = h

-- a law of all outcomes
pub law-of : (config : List ℕ) (s : Config) (law : Config → RunOutcome → Type 0) (r : Result RunOutcome Fault) (o : RunOutcome)
    → document_of config ≡ Ok (values_of s) → law s o → IfOk r (λ x. x ≡ o) → IfOk r (HoldsUnder config law)
law-of config s law (Ok x) o configured holds e = record { machine = s; configured = configured; holds = subst (λ y. law s y) (sym e) holds }
law-of config s law (Err f) o configured holds e = e

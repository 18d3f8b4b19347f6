-- The tests of a run's input, one after the other.
use Rattle.std.proofs.Common.{◌≡◌, ℕ, ◌≤◌, ◌⊎◌, inl, inr, refl, sym, subst, Bool, true, false, eqb, leb, ◌&&◌, List, length, Result, Ok, Err, ap, ◌∙◌}
use Rattle.std.proofs.lemmas.Bool.Decides.{nat_tests}
use Rattle.sim_base.specs.declared.fault.Fault.{Fault}
use Rattle.sim_base.specs.declared.fault.Fault.TheVariants.{ConfigSyntax, ConfigKey, ConfigRange, ConfigRelation, TraceLine, TraceTooLong, TraceCount, Workers, Cycles, Memory, WorkerStart, Write, Read, CommandLine, CheckRow, Merge}
use Rattle.config_reader.specs.Document.{document_of}
use Rattle.sim_base.specs.Values.{Values}
use Rattle.sim_base.specs.TraceText.{◌>>=◌}
use Rattle.std.proofs.Common.{arith}
use Rattle.std.specs.Prelude.{◌≢◌, IsOk, IfErr}
use Rattle.sim_base.specs.declared.trace.Entry.{Entry}
use Rattle.simulation.specs.MachineRuns.{IsRefusedTo}
use Rattle.simulation.specs.Runs.{unless, limits_of, traces_of, input_of, IsRefusal}

pub input_config : (config : List ℕ) (texts : List (List ℕ)) (cycles workers : ℕ) (fault : Fault)
    → document_of config ≡ Err fault → input_of config texts cycles workers ≡ Err fault
unfolding input_of
input_config config texts cycles workers fault e =
    ap (λ r. r >>= (λ (v : Values). limits_of v.cores (length texts) cycles workers >>= (λ _. traces_of 0 texts))) e

pub input_limits : (config : List ℕ) (texts : List (List ℕ)) (cycles workers : ℕ) (values : Values) (fault : Fault)
    → document_of config ≡ Ok values → limits_of values.cores (length texts) cycles workers ≡ Err fault → input_of config texts cycles workers ≡ Err fault
unfolding input_of
input_limits config texts cycles workers values fault e f =
    ap (λ r. r >>= (λ (v : Values). limits_of v.cores (length texts) cycles workers >>= (λ _. traces_of 0 texts))) e
    ∙ ap (λ r. r >>= (λ _. traces_of 0 texts)) f

pub input_traces : (config : List ℕ) (texts : List (List ℕ)) (cycles workers : ℕ) (values : Values)
    → document_of config ≡ Ok values → limits_of values.cores (length texts) cycles workers ≡ Ok tt → input_of config texts cycles workers ≡ traces_of 0 texts
unfolding input_of
input_traces config texts cycles workers values e f =
    ap (λ r. r >>= (λ (v : Values). limits_of v.cores (length texts) cycles workers >>= (λ _. traces_of 0 texts))) e
    ∙ ap (λ r. r >>= (λ _. traces_of 0 texts)) f

bind_ok : {A B : Type 0} (r : Result A Fault) (f : A → Result B Fault) (y : B) → (r >>= f) ≡ Ok y → (x : A) × (r ≡ Ok x)
bind_ok (Ok x) f y h = (x, refl)
bind_ok (Err e) f y h = absurd (cc)

passed : (b : Bool) (fault : Fault) (x : Unit {0}) → unless b fault ≡ Ok x → b ≡ true
passed true fault x h = refl
passed false fault x h = absurd (cc)

pub limits_count : (cores texts cycles workers : ℕ) → limits_of cores texts cycles workers ≡ Ok tt → texts ≡ cores
unfolding limits_of
limits_count cores texts cycles workers h =
    let p = bind_ok (unless (eqb texts cores) TraceCount) _ tt h in
    let e : eqb texts cores ≡ true = passed (eqb texts cores) TraceCount p.0 p.1 in
    grind (arith, nat_tests)

pub limits_cycles : (cores texts cycles workers : ℕ) → limits_of cores texts cycles workers ≡ Ok tt → cycles ≤ 1000000000000
unfolding limits_of
limits_cycles cores texts cycles workers h =
    let a : eqb texts cores ≡ true = let p = bind_ok (unless (eqb texts cores) TraceCount) _ tt h in passed (eqb texts cores) TraceCount p.0 p.1 in
    by (eqb texts cores) (leb 1 workers && leb workers 64) h
  where
    by : (x y : Bool) → (unless x TraceCount >>= (λ _. unless y Workers >>= (λ _. unless (leb cycles 1000000000000) Cycles))) ≡ Ok tt → cycles ≤ 1000000000000
    by false y k = absurd (cc)
    by true false k = absurd (cc)
    by true true k =
        let e : leb cycles 1000000000000 ≡ true = passed (leb cycles 1000000000000) Cycles tt k in
        grind (arith, nat_tests)

pub limits_workers : (cores texts cycles workers : ℕ) → limits_of cores texts cycles workers ≡ Ok tt → (1 ≤ workers) × (workers ≤ 64)
unfolding limits_of
limits_workers cores texts cycles workers h = by (eqb texts cores) (leb 1 workers) (leb workers 64) refl refl h
  where
    by : (x y z : Bool) → leb 1 workers ≡ y → leb workers 64 ≡ z → (unless x TraceCount >>= (λ _. unless (y && z) Workers >>= (λ _. unless (leb cycles 1000000000000) Cycles))) ≡ Ok tt
        → (1 ≤ workers) × (workers ≤ 64)
    by false y z e f k = absurd (cc)
    by true false z e f k = absurd (cc)
    by true true false e f k = absurd (cc)
    by true true true e f k = (grind (arith, nat_tests), grind (arith, nat_tests))

-- memory was refused, or it was something else
pub memory-or-not : (fault : Fault) → (fault ≡ Memory) ⊎ (fault ≢ Memory)
memory-or-not Memory = inl refl
memory-or-not ConfigSyntax = inr (λ e. cc)
memory-or-not (ConfigKey k) = inr (λ e. cc)
memory-or-not (ConfigRange k) = inr (λ e. cc)
memory-or-not (ConfigRelation n) = inr (λ e. cc)
memory-or-not (TraceLine c l w) = inr (λ e. cc)
memory-or-not (TraceTooLong c) = inr (λ e. cc)
memory-or-not TraceCount = inr (λ e. cc)
memory-or-not Workers = inr (λ e. cc)
memory-or-not Cycles = inr (λ e. cc)
memory-or-not WorkerStart = inr (λ e. cc)
memory-or-not Write = inr (λ e. cc)
memory-or-not Read = inr (λ e. cc)
memory-or-not CommandLine = inr (λ e. cc)
memory-or-not (CheckRow n) = inr (λ e. cc)
memory-or-not (Merge m) = inr (λ e. cc)

-- what the tests of the input refuse
pub refused-input : (config : List ℕ) (texts : List (List ℕ)) (cycles workers : ℕ) (fault : Fault)
    → (fault ≢ Memory → input_of config texts cycles workers ≡ Err fault) → IsRefusal config texts cycles workers fault
refused-input config texts cycles workers fault h =
    elim (memory-or-not fault) [
      | inl e ↦ inl e
      | inr n ↦ inr (inl (h n))
    ]

-- what the host refuses to a run of which the input is right
refused-host : (config : List ℕ) (texts : List (List ℕ)) (cycles workers : ℕ) (traces : List (List Entry)) (fault : Fault)
    → input_of config texts cycles workers ≡ Ok traces → IsRefusedTo workers fault → IsRefusal config texts cycles workers fault
refused-host config texts cycles workers traces fault e h =
    elim (h.0) [
      | inl m ↦ inl m
      | inr w ↦ inr (inr (w, h.1 w, subst IsOk (sym e) refl))
    ]

pub refused-run : (config : List ℕ) (texts : List (List ℕ)) (cycles workers : ℕ) (traces : List (List Entry)) {A : Type 0} (result : Result A Fault)
    → input_of config texts cycles workers ≡ Ok traces → IfErr result (IsRefusedTo workers) → IfErr result (IsRefusal config texts cycles workers)
refused-run config texts cycles workers traces (Ok outcome) e h = h
refused-run config texts cycles workers traces (Err fault) e h = refused-host config texts cycles workers traces fault e h

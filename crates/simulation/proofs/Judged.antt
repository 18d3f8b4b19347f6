-- The verdict on the table of a run.
use Rattle.std.proofs.Common.{◌≡◌, ℕ, ◌+◌, ◌≤◌, ◌^◌, Bool, true, false, cond, leb, List, [], ◌∷◌, length, Result, Ok, Err, refl, subst, arith}
use Rattle.std.specs.List.{AllByRecursion as Each}
use Rattle.std.proofs.lemmas.Bool.Decides.{nat_tests}
use Rattle.std.proofs.lemmas.List.Elements.{All-from_recursion}
use Rattle.sim_base.specs.declared.config.Config.{Config}
use Rattle.sim_base.specs.declared.fault.Fault.{Fault}
use Rattle.sim_base.specs.declared.fault.Fault.TheVariants.{TraceTooLong}
use Rattle.sim_base.specs.declared.trace.Entry.{Entry}
use Rattle.sim_base.specs.TraceText.{◌>>=◌, trace_answer, in_trace, trace_entries, limited}
use Rattle.sim_base.specs.Machine.{cycles_run}
use Rattle.sim_base.proofs.Cycles.{cycles-within}
use Rattle.run_tables.proofs.TableLaws.Verdicts.{runs-legal}
use Rattle.simulation.specs.Runs.{traces_of, IsLegalRun}

-- a trace that is read is short enough
limited-short : (core : ℕ) (b : Bool) (entries trace : List Entry) → leb (length entries) (2 ^ 62) ≡ b → cond {A = Result (List Entry) Fault} b (Ok entries) (Err (TraceTooLong core)) ≡ Ok trace → length trace ≤ 2 ^ 62
limited-short core true entries trace h e =
    let same : entries ≡ trace = cc e in
    let short : length entries ≤ 2 ^ 62 = grind (arith, nat_tests) in
    subst (λ (x : List Entry). length x ≤ 2 ^ 62) same short
limited-short core false entries trace h e = cc e

answer-short : (core : ℕ) (text : List ℕ) (trace : List Entry) → trace_answer core text ≡ Ok trace → length trace ≤ 2 ^ 62
unfolding trace_answer limited
answer-short core text trace e = by (in_trace core (trace_entries text)) e
  where
    by : (r : Result (List Entry) Fault) → (r >>= limited core) ≡ Ok trace → length trace ≤ 2 ^ 62
    by (Ok entries) e = limited-short core (leb (length entries) (2 ^ 62)) entries trace refl e
    by (Err fault) e = cc e

traces-short : (core : ℕ) (texts : List (List ℕ)) (traces : List (List Entry)) → traces_of core texts ≡ Ok traces → Each (λ (t : List Entry). length t ≤ 2 ^ 62) traces
unfolding traces_of
traces-short core [] traces e = let same : [] ≡ traces = cc e in subst (Each (λ (t : List Entry). length t ≤ 2 ^ 62)) same tt
traces-short core (text ∷ texts) traces e = by (trace_answer core text) (traces_of (core + 1) texts) refl (traces-short (core + 1) texts) e
  where
    by : (first : Result (List Entry) Fault) (others : Result (List (List Entry)) Fault) → trace_answer core text ≡ first
        → ((rest : List (List Entry)) → others ≡ Ok rest → Each (λ (t : List Entry). length t ≤ 2 ^ 62) rest)
        → (first >>= (λ f. others >>= (λ rest. Ok (f ∷ rest)))) ≡ Ok traces → Each (λ (t : List Entry). length t ≤ 2 ^ 62) traces
    by (Ok f) (Ok rest) a h e =
        let same : f ∷ rest ≡ traces = cc e in
        subst (Each (λ (t : List Entry). length t ≤ 2 ^ 62)) same (answer-short core text f a, h rest refl)
    by (Ok f) (Err fault) a h e = cc e
    by (Err fault) others a h e = cc e

-- the table of a run over traces that were read, with a limit of at most 10^12 cycles, is legal
pub run-judged : (s : Config) (texts : List (List ℕ)) (traces : List (List Entry)) (cycles : ℕ) → traces_of 0 texts ≡ Ok traces → cycles ≤ 10 ^ 12
    → IsLegalRun s traces (cycles_run s traces cycles)
run-judged s texts traces cycles read few =
    let n = cycles_run s traces cycles in
    let below : n ≤ 2 ^ 62 = omega (arith, cycles-within s traces cycles) in
    runs-legal s traces n below (All-from_recursion (λ (t : List Entry). length t ≤ 2 ^ 62) traces (traces-short 0 texts traces read))

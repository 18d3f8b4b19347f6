-- What a core issues and retires keeps to its trace: it issues no more entries than there are, and retires none before
-- it is issued.
use Rattle.std.proofs.Common.{◌≡◌, ℕ, zero, suc, ◌+◌, ◌-◌, ◌<◌, ◌≤◌, Bool, true, cond, eqb, min, List, [], ◌∷◌, ◌++◌, length, Option, Some, None, sym, ap, subst, ◌∙◌, ⊎_elim, arith}
use Rattle.std.specs.Prelude.{find, unwrap_or, is_some}
use Rattle.std.specs.List.{range_with_len}
use Rattle.std.specs.Option.{IfSome, option_or}
use Rattle.std.proofs.lemmas.Bool.{cond_both, cond-true, cases_lt, eq-eqb}
use Rattle.std.proofs.lemmas.List.Folds.{length-prefix_len}
use Rattle.std.proofs.lemmas.List.FromFn.{length-range_with_len}
use Rattle.std.proofs.lemmas.List.Sums.{prefix_len-le-length}
use Rattle.sim_base.specs.declared.config.Config.{Config}
use Rattle.sim_base.specs.History.{below, trace_of, steps_of_core, retired_before, issued_before, core_messages, inbox}
use Rattle.sim_base.specs.Machine.{run}
use Rattle.sim_base.specs.Windows.{done_from, is_done, retires, stop_after, has_cause, first_stop, step}
use Rattle.sim_base.specs.declared.history.CoreStep.{CoreStep}
use Rattle.sim_base.specs.declared.message.Message.{Message}
use Rattle.sim_base.specs.declared.message.Unit.TheVariants.{Core}
use Rattle.sim_base.specs.declared.trace.Entry.{Entry}
use Rattle.sim_base.proofs.Grows.{issued_before-push}
use Rattle.statistics.proofs.CoreCounts.{retired_before-push}
use Rattle.statistics.proofs.Lists.{find_below_more}
use Rattle.statistics.proofs.RunSteps.{steps_of_core-next}

-- a core retires no more than it issued
pub retires-le : (s : Config) (trace : List Entry) (steps : List CoreStep) (inbox : List Message) → retires s trace steps inbox ≤ min s.width (issued_before steps - retired_before steps)
unfolding retires done_from
retires-le s trace steps inbox =
    let first = retired_before steps in
    let most = min s.width (issued_before steps - first) in
    let p = is_done trace inbox (length steps) in
    omega (arith, length-prefix_len p (range_with_len first most), prefix_len-le-length p (range_with_len first most), length-range_with_len first most)

-- what is found below n is below n
find_below_small : (p : ℕ → Bool) (n : ℕ) → IfSome (find p (below n)) (λ i. i < n)
find_below_small p zero = tt
find_below_small p (suc n) = subst (λ o. IfSome o (λ i. i < suc n)) (sym (find_below_more p n)) (by (find p (below n)) (find_below_small p n))
  where
    by : (o : Option ℕ) → IfSome o (λ i. i < n) → IfSome (option_or o (cond (p n) (Some n) None)) (λ i. i < suc n)
    by None h = cond_both (p n) (Some n) None (λ x. IfSome x (λ i. i < suc n)) (λ e. omega arith) (λ e. tt)
    by (Some i) h = omega arith

-- the first number that passes is no greater than another one
find_below_le : (p : ℕ → Bool) (at : ℕ) → p at ≡ true → (n : ℕ) → at < n → (d : ℕ) → unwrap_or (find p (below n)) d ≤ at
find_below_le p at h zero l d = absurd (omega arith)
find_below_le p at h (suc n) l d =
    subst (λ o. unwrap_or o d ≤ at) (sym (find_below_more p n))
    (⊎_elim
    (λ (earlier : at < n). found (find p (below n)) (find_below_le p at h n earlier))
    (λ (last : n ≤ at). let e : at ≡ n = omega arith in here e (find p (below n)) (find_below_small p n))
    (cases_lt at n))
  where
    found : (o : Option ℕ) → ((x : ℕ) → unwrap_or o x ≤ at) → unwrap_or (option_or o (cond (p n) (Some n) None)) d ≤ at
    found None k = let wrong : suc at ≤ at = k (suc at) in absurd (omega arith)
    found (Some i) k = k 0

    here : at ≡ n → (o : Option ℕ) → IfSome o (λ i. i < n) → unwrap_or (option_or o (cond (p n) (Some n) None)) d ≤ at
    here e None k =
        let passes : p n ≡ true = sym (ap p e) ∙ h in
        subst (λ b. unwrap_or (cond b (Some n) None) d ≤ at) (sym passes) (omega arith)
    here e (Some i) k = omega arith

find_below_width : (p : ℕ → Bool) (n : ℕ) → unwrap_or (find p (below (n + 1))) n ≤ n
find_below_width p n = by (find p (below (n + 1))) (find_below_small p (n + 1))
  where
    by : (o : Option ℕ) → IfSome o (λ i. i < n + 1) → unwrap_or o n ≤ n
    by None h = omega arith
    by (Some i) h = omega arith

pub first_stop-le_width : (s : Config) (core : ℕ) (trace : List Entry) (inbox sent : List Message) (now first retired_by_end : ℕ)
    → first_stop s core trace inbox sent now first retired_by_end ≤ s.width
unfolding first_stop
first_stop-le_width s core trace inbox sent now first retired_by_end = find_below_width (has_cause s core trace inbox sent now first retired_by_end) s.width

-- a core stops where its trace ends
pub first_stop-le : (s : Config) (core : ℕ) (trace : List Entry) (inbox sent : List Message) (now first retired_by_end : ℕ) → first ≤ length trace
    → first + first_stop s core trace inbox sent now first retired_by_end ≤ length trace
unfolding first_stop has_cause stop_after
first_stop-le s core trace inbox sent now first retired_by_end l =
    let m = first_stop s core trace inbox sent now first retired_by_end in
    let left = length trace - first in
    let p = has_cause s core trace inbox sent now first retired_by_end in
    let ends : eqb (first + left) (length trace) ≡ true = eq-eqb (first + left) (length trace) (omega arith) in
    let cause : p left ≡ true = ap is_some (cond-true _ _ _ ends) in
    ⊎_elim
    (λ (near : left < s.width + 1). let k : unwrap_or (find p (below (s.width + 1))) s.width ≤ left = find_below_le p left cause (s.width + 1) near s.width in omega arith)
    (λ (far : s.width + 1 ≤ left). let k : unwrap_or (find p (below (s.width + 1))) s.width ≤ s.width = find_below_width p s.width in omega arith)
    (cases_lt left (s.width + 1))

-- a core issues no more than its trace has
pub issues-le : (s : Config) (core : ℕ) (trace : List Entry) (steps : List CoreStep) (inbox : List Message) → issued_before steps ≤ length trace
    → issued_before steps + (step s core trace steps inbox).0.issued ≤ length trace
unfolding step
issues-le s core trace steps inbox l = first_stop-le s core trace inbox (core_messages s core trace steps) (length steps) (issued_before steps) _ l

-- what a core issued and retired keeps to its trace
pub record KeepsToTrace (trace : List Entry) (steps : List CoreStep) : Type 0 where
  pub issued : issued_before steps ≤ length trace
  pub retired : retired_before steps ≤ issued_before steps

pub KeepsToTrace-step : (s : Config) (core : ℕ) (trace : List Entry) (steps : List CoreStep) (inbox : List Message) → KeepsToTrace trace steps
    → KeepsToTrace trace (steps ++ (step s core trace steps inbox).0 ∷ [])
unfolding step
KeepsToTrace-step s core trace steps inbox h =
    let row = (step s core trace steps inbox).0 in
    let issued : issued_before steps + row.issued ≤ length trace = issues-le s core trace steps inbox h.issued in
    let retired : row.retired ≤ issued_before steps - retired_before steps = omega (arith, retires-le s trace steps inbox) in
    record {
      issued = omega (arith, issued_before-push steps row);
      retired = omega (arith, issued_before-push steps row, retired_before-push steps row);
    }

pub KeepsToTrace-run : (s : Config) (traces : List (List Entry)) (core : ℕ) → core < s.cores → (n : ℕ) → KeepsToTrace (trace_of traces core) (steps_of_core core (run s traces n))
unfolding run steps_of_core issued_before retired_before
KeepsToTrace-run s traces core l zero = record { issued = omega arith; retired = omega arith }
KeepsToTrace-run s traces core l (suc n) =
    subst (KeepsToTrace (trace_of traces core)) (sym (steps_of_core-next s traces n core l))
    (KeepsToTrace-step s core (trace_of traces core) (steps_of_core core (run s traces n)) (inbox s traces (run s traces n) (Core core)) (KeepsToTrace-run s traces core l n))

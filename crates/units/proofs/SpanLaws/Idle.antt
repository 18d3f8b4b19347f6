-- Rows that go on with cycles in which a unit does nothing, and a unit whose steps go on so when it is run alone.
use Rattle.std.proofs.Common.{◌≡◌, ℕ, zero, suc, ◌+◌, List, [], ◌∷◌, ◌++◌, length, take, sym, ap, subst, ◌∙◌, add-zero, add-one, add-suc, append_assoc}
use Rattle.std.specs.Prelude.{replicate}
use Rattle.std.proofs.Math.Seq.{take-append_seam, take-length}
use Rattle.std.proofs.lemmas.List.{append-nil, length_push, replicate_more, same_from_push}
use Rattle.sim_base.specs.declared.config.Config.{Config}
use Rattle.sim_base.specs.History.{issued_before, requests_in, core_messages}
use Rattle.sim_base.specs.Machine.{core_run}
use Rattle.sim_base.specs.Windows.{step}
use Rattle.sim_base.specs.declared.history.CoreStep.{CoreStep}
use Rattle.sim_base.specs.declared.message.Message.{Message}
use Rattle.sim_base.specs.declared.trace.Entry.{Entry}
use Rattle.sim_base.proofs.Added.{core_messages-push}
use Rattle.sim_base.proofs.Grows.{issued_before-push}
use Rattle.core_window.specs.Rests.{idle_step, Rests}
use Rattle.units.proofs.SpanLaws.Over.{nothing-between}

-- the steps of some idle cycles of a core, and one more
rest-push : (steps : List CoreStep) (n : ℕ) → steps ++ replicate (suc n) idle_step ≡ (steps ++ replicate n idle_step) ++ idle_step ∷ []
rest-push steps n =
    ap (λ x. steps ++ x) (ap (λ k. replicate k idle_step) (sym (add-one n)) ∙ sym (replicate_more {X = CoreStep} n idle_step))
    ∙ sym (append_assoc steps (replicate n idle_step) (idle_step ∷ []))

-- a core requests nothing in an idle cycle
rest-silent : (s : Config) (core : ℕ) (trace : List Entry) (steps : List CoreStep) → requests_in s core trace (steps ++ idle_step ∷ []) (length steps) ≡ []
unfolding requests_in
rest-silent s core trace steps =
    let more = steps ++ idle_step ∷ [] in
    let all : take (length steps + 1) more ≡ more = ap (λ n. take n more) (sym (length_push steps idle_step)) ∙ take-length more in
    let old : take (length steps) more ≡ steps = take-append_seam steps (idle_step ∷ []) in
    nothing-between s core trace (length steps) (issued_before (take (length steps) more)) (issued_before (take (length steps + 1) more))
    (ap issued_before all ∙ issued_before-push steps idle_step ∙ add-zero (issued_before steps) ∙ ap issued_before (sym old))

-- a core sends nothing in idle cycles
pub rest-messages : (s : Config) (core : ℕ) (trace : List Entry) (steps : List CoreStep) (n : ℕ) → core_messages s core trace (steps ++ replicate n idle_step) ≡ core_messages s core trace steps
rest-messages s core trace steps zero = ap (core_messages s core trace) (append-nil steps)
rest-messages s core trace steps (suc n) =
    let before = steps ++ replicate n idle_step in
    ap (core_messages s core trace) (rest-push steps n)
    ∙ core_messages-push s core trace before idle_step
    ∙ ap (λ x. core_messages s core trace before ++ x) (rest-silent s core trace before)
    ∙ append-nil _
    ∙ rest-messages s core trace steps n

-- a core that rests in some cycles rests in the first of them
pub rests-sooner : (s : Config) (core : ℕ) (trace : List Entry) (steps : List CoreStep) (mail : List Message) (m k : ℕ) → Rests s core trace steps mail (m + k) → Rests s core trace steps mail m
unfolding core_run
rests-sooner s core trace steps mail m zero h = subst (λ n. Rests s core trace steps mail n) (add-zero m) h
rests-sooner s core trace steps mail m (suc k) h =
    let n = m + k in
    let before = core_run s core trace steps mail n in
    let e : core_run s core trace steps mail (suc n) ≡ steps ++ replicate (suc n) idle_step = subst (λ i. Rests s core trace steps mail i) (add-suc m k) h in
    rests-sooner s core trace steps mail m k
    (same_from_push before (steps ++ replicate n idle_step) (step s core trace before mail).0 idle_step (e ∙ rest-push steps n)).0

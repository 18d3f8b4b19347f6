-- A core that issues none but Plain entries sends nothing.
use Rattle.std.proofs.Common.{◌≡◌, ℕ, zero, suc, ◌+◌, ◌*◌, ◌<◌, ◌≤◌, List, [], ◌∷◌, ◌++◌, length, None, refl, sym, ap, subst, ◌∙◌, append_assoc, arith, ⊎_elim}
use Rattle.std.specs.Prelude.{replicate}
use Rattle.std.proofs.lemmas.List.{append-nil}
use Rattle.std.proofs.lemmas.Bool.{cases_lt}
use Rattle.std.proofs.Math.Nat.{mul-le-mul_right}
use Rattle.sim_base.specs.declared.config.Config.{Config}
use Rattle.sim_base.specs.History.{issued_before, core_messages}
use Rattle.sim_base.specs.Machine.{core_run}
use Rattle.sim_base.specs.Windows.{step}
use Rattle.sim_base.specs.declared.history.CoreStep.{CoreStep}
use Rattle.sim_base.specs.declared.message.Message.{Message}
use Rattle.sim_base.specs.declared.trace.Entry.{Entry}
use Rattle.sim_base.proofs.Grows.{issued_before-push}
use Rattle.cpu_trace.specs.NextMemory.{IsPlainBetween}
use Rattle.statistics.proofs.KeepsToTrace.{first_stop-le_width, issues-le}
use Rattle.core_window.specs.Inside.{StandsAt}
use Rattle.core_window.specs.Rests.{idle_step, NeverActs}
use Rattle.core_window.specs.Silence.{IsSilentUntil, KeepsSilent}
use Rattle.core_window.specs.OneCycle.{IsSeen}
use Rattle.core_window.specs.Views.{CoreView}
use Rattle.core_window.proofs.Issuing.{messages-push}
use Rattle.core_window.proofs.Running.{stands-at}
use Rattle.core_window.proofs.Working.{issued_of}

-- a core issues its width of entries at most in a cycle
width-most : (s : Config) (core : ℕ) (trace : List Entry) (steps : List CoreStep) (mail : List Message) → (step s core trace steps mail).0.issued ≤ s.width
unfolding step
width-most s core trace steps mail = first_stop-le_width s core trace mail (core_messages s core trace steps) (length steps) (issued_before steps) _

-- what it issued in n cycles
issued-more : (s : Config) (core : ℕ) (trace : List Entry) (steps : List CoreStep) (mail : List Message) (n : ℕ) → issued_before steps ≤ issued_before (core_run s core trace steps mail n)
unfolding core_run
issued-more s core trace steps mail zero = omega arith
issued-more s core trace steps mail (suc n) =
    let before = core_run s core trace steps mail n in
    omega (arith, issued-more s core trace steps mail n, issued_before-push before (step s core trace before mail).0)

issued-most : (s : Config) (core : ℕ) (trace : List Entry) (steps : List CoreStep) (mail : List Message) (n : ℕ) → issued_before (core_run s core trace steps mail n) ≤ issued_before steps + n * s.width
unfolding core_run
issued-most s core trace steps mail zero = omega arith
issued-most s core trace steps mail (suc n) =
    let before = core_run s core trace steps mail n in
    omega (arith, issued-most s core trace steps mail n, issued_before-push before (step s core trace before mail).0, width-most s core trace before mail)

issued-within : (s : Config) (core : ℕ) (trace : List Entry) (steps : List CoreStep) (mail : List Message) → issued_before steps ≤ length trace → (n : ℕ) → issued_before (core_run s core trace steps mail n) ≤ length trace
unfolding core_run
issued-within s core trace steps mail l zero = l
issued-within s core trace steps mail l (suc n) =
    let before = core_run s core trace steps mail n in
    omega (arith, issues-le s core trace before mail (issued-within s core trace steps mail l n), issued_before-push before (step s core trace before mail).0)

-- where none but Plain entries are issued, nothing is sent
silent-by : (s : Config) (core : ℕ) (trace : List Entry) (steps : List CoreStep) (mail : List Message) (first_at n : ℕ) → IsPlainBetween trace (issued_before steps) first_at
    → ((m : ℕ) → m ≤ n → issued_before (core_run s core trace steps mail m) ≤ first_at)
    → core_messages s core trace (core_run s core trace steps mail n) ≡ core_messages s core trace steps
unfolding core_run
silent-by s core trace steps mail first_at zero plain within = refl
silent-by s core trace steps mail first_at (suc n) plain within =
    let before = core_run s core trace steps mail n in
    let core_step = (step s core trace before mail).0 in
    let more = issued-more s core trace steps mail n in
    let l : issued_before before + core_step.issued ≤ first_at = omega (arith, within (suc n) (omega arith), issued_before-push before core_step) in
    messages-push s core trace before core_step None (λ k from to. plain k (omega arith) (omega arith))
    ∙ append-nil (core_messages s core trace before)
    ∙ silent-by s core trace steps mail first_at n plain (λ m k. within m (omega arith))

idle-issued : (steps : List CoreStep) (n : ℕ) → issued_before (steps ++ replicate n idle_step) ≡ issued_before steps
idle-issued steps zero = ap issued_before (append-nil steps)
idle-issued steps (suc n) =
    ap issued_before (sym (append_assoc steps (idle_step ∷ []) (replicate n idle_step)))
    ∙ idle-issued (steps ++ idle_step ∷ []) n
    ∙ (let e = issued_before-push steps idle_step in let l : issued_before (steps ++ idle_step ∷ []) ≡ issued_before steps = omega (arith, e) in l)

-- a core that rests sends nothing
pub rest-silent : (s : Config) (core : ℕ) (trace : List Entry) (steps : List CoreStep) (mail : List Message) (until : ℕ) → NeverActs s core trace steps mail → IsSilentUntil s core trace steps mail until
rest-silent s core trace steps mail until h n l =
    silent-by s core trace steps mail (issued_before steps) n (λ k from to. absurd (omega arith))
    (λ m k. let e : issued_before (core_run s core trace steps mail m) ≡ issued_before steps = ap issued_before (h.rests m) ∙ idle-issued steps m in omega (arith, e))

-- a core sends nothing in the cycles that it takes to issue the Plain entries before its next Read or Write, each cycle
-- its width of them
pub plain-silent : (a : CoreView) (first_at second_at cycles until : ℕ) (entry : Entry) → IsSeen a.trace a.stats.issued first_at second_at entry
    → (first_at < length a.trace → a.stats.issued + cycles * a.config.width ≤ first_at) → until ≤ a.now + cycles
    → KeepsSilent a until
plain-silent a first_at second_at cycles until entry seen few near s core trace steps mail h n l =
    silent-by s core trace steps mail first_at n moved.0.ahead.first.is_plain_before (λ m k. bound m (omega (arith, here.now)))
  where
    here : StandsAt s core trace steps mail a
    here = stands-at s core trace steps mail a h

    Few : Config → List Entry → ℕ → Type 0
    Few c t i = IsSeen t i first_at second_at entry × (first_at < length t → i + cycles * c.width ≤ first_at)

    moved : Few s trace (issued_before steps)
    moved =
        subst (λ i. Few s trace i) (issued_of s core trace steps mail a here)
        (subst (λ t. Few s t a.stats.issued) here.entries (subst (λ c. Few c a.trace a.stats.issued) here.config (seen, few)))

    more : (m : ℕ) → m ≤ cycles → issued_before steps + cycles * s.width ≤ first_at → issued_before (core_run s core trace steps mail m) ≤ issued_before steps + m * s.width → issued_before (core_run s core trace steps mail m) ≤ first_at
    more m k less most = let e : m * s.width ≤ cycles * s.width = mul-le-mul_right s.width k in omega (arith, e, less, most)

    bound : (m : ℕ) → m ≤ cycles → issued_before (core_run s core trace steps mail m) ≤ first_at
    bound m k =
        ⊎_elim
        (λ (inside : first_at < length trace). more m k (moved.1 inside) (issued-most s core trace steps mail m))
        (λ (over : length trace ≤ first_at). omega (arith, over, issued-within s core trace steps mail here.past.issued m))
        (cases_lt first_at (length trace))

-- A core that does nothing in a cycle does nothing in those after it, while no message comes.
use Rattle.std.proofs.Common.{◌≡◌, ℕ, zero, suc, ◌+◌, ◌-◌, ◌<◌, List, [], ◌∷◌, ◌++◌, length, Option, None, refl, sym, ap, ap₂, subst, ◌∙◌, inl, append_assoc, arith}
use Rattle.std.specs.Prelude.{replicate}
use Rattle.std.proofs.lemmas.List.{append-nil}
use Rattle.sim_base.specs.declared.config.Config.{Config}
use Rattle.sim_base.specs.History.{issued_before, retired_before}
use Rattle.sim_base.specs.Machine.{core_run}
use Rattle.sim_base.specs.Windows.{step, retires}
use Rattle.sim_base.specs.declared.history.CoreStep.{CoreStep}
use Rattle.sim_base.specs.declared.message.Message.{Message}
use Rattle.sim_base.specs.declared.trace.Entry.{Entry}
use Rattle.sim_base.specs.declared.trace.Stop.{Stop}
use Rattle.cpu_trace.specs.declared.entries.MemoryEntry.{MemoryEntry}
use Rattle.statistics.specs.Cores.{core_joined, core_times}
use Rattle.statistics.specs.declared.cores.CoreStats.{CoreStats}
use Rattle.core_window.specs.Inside.{StandsAt, IsStanding, IsLike, Does}
use Rattle.core_window.specs.Rests.{idle_step, Rests, IsFirstAct, NeverActs, HasSomePast}
use Rattle.core_window.proofs.Stretching.{steady-none, steady-more, none_issues, idle-like}
use Rattle.core_window.proofs.Working.{like-self, issued_of}
use Rattle.core_window.proofs.Retiring.{retires-by}
use Rattle.core_window.specs.Causes.{first_undone}
use Rattle.core_window.specs.Outstanding.{outstanding_reads}
use Rattle.core_window.specs.declared.outstanding.OutstandingRead.{OutstandingRead}
use Rattle.core_window.specs.Stands.{StandsFor}
use Rattle.core_window.specs.OneCycle.{IsWork, cycle_counts}
use Rattle.core_window.specs.Views.{CoreView}
use Rattle.core_window.proofs.Stepping.{step-stands, retired_of}
use Rattle.core_window.proofs.Running.{stands-at}

-- what is counted in a cycle in which a core does nothing
abbrev pub idle_counts : Stop → ℕ → CoreStats
idle_counts why now = cycle_counts idle_step why None 0 0 now

-- a core after n such cycles
abbrev pub idle_view : CoreView → Stop → ℕ → CoreView
idle_view a why n = record a { now = a.now + n; stats = core_joined a.stats (core_times n (idle_counts why a.now)) }

replicate-more : (n : ℕ) (x : CoreStep) (steps : List CoreStep) → (steps ++ replicate n x) ++ x ∷ [] ≡ steps ++ replicate (suc n) x
replicate-more n x steps = append_assoc steps (replicate n x) (x ∷ []) ∙ ap (λ l. steps ++ l) (same n)
  where
    same : (m : ℕ) → replicate m x ++ x ∷ [] ≡ replicate (suc m) x
    same zero = refl
    same (suc m) = ap (λ l. x ∷ l) (same m)

-- a core that does nothing in a cycle, whatever else it counted
abbrev pub WorksIdle : CoreView → Stop → Option MemoryEntry → Type 0
WorksIdle a why memory =
    (v : CoreView) (s : Config) (core : ℕ) (trace : List Entry) (steps : List CoreStep) (mail : List Message)
    → IsLike a v → StandsAt s core trace steps mail v → IsWork s core trace steps mail idle_step why memory

-- in no cycle
idle-none : (s : Config) (core : ℕ) (trace : List Entry) (steps : List CoreStep) (mail : List Message) (a : CoreView) (why : Stop) → StandsAt s core trace steps mail a
    → StandsAt s core trace (steps ++ []) mail (idle_view a why 0)
idle-none s core trace steps mail a why h =
    subst (λ (v : CoreView). StandsAt s core trace (steps ++ []) mail v) (steady-none a idle_step why) (subst (λ r. StandsAt s core trace r mail a) (sym (append-nil steps)) h)

idle-stands : (s : Config) (core : ℕ) (trace : List Entry) (steps : List CoreStep) (mail : List Message) (a : CoreView) (why : Stop) (memory : Option MemoryEntry)
    → WorksIdle a why memory → StandsAt s core trace steps mail a → (n : ℕ) → StandsAt s core trace (steps ++ replicate n idle_step) mail (idle_view a why n) × Rests s core trace steps mail n
unfolding core_run
idle-stands s core trace steps mail a why memory cycle_work h zero = (idle-none s core trace steps mail a why h, sym (append-nil steps))
idle-stands s core trace steps mail a why memory cycle_work h (suc n) = by (idle-stands s core trace steps mail a why memory cycle_work h n)
  where
    by : StandsAt s core trace (steps ++ replicate n idle_step) mail (idle_view a why n) × Rests s core trace steps mail n
        → StandsAt s core trace (steps ++ replicate (suc n) idle_step) mail (idle_view a why (suc n)) × Rests s core trace steps mail (suc n)
    by d =
        let before = steps ++ replicate n idle_step in
        let v = idle_view a why n in
        let t : IsWork s core trace before mail idle_step why memory = cycle_work v s core trace before mail (idle-like a why n) d.0 in
        let none : memory ≡ None = none_issues trace (issued_before before) memory t.issues in
        let t0 : IsWork s core trace before mail idle_step why None = subst (IsWork s core trace before mail idle_step why) none t in
        let stands : StandsAt s core trace (before ++ idle_step ∷ []) mail (idle_view a why (suc n)) =
        step-stands s core trace before mail v (idle_view a why (suc n)) idle_step why None d.0 t0
        (record {
          config = refl;
          number = refl;
          entries = refl;
          now = omega arith;
          outstanding = sym (append-nil a.outstanding);
          channels = refl;
          credits = λ channel c e. e;
          stats = sym (steady-more a.stats idle_step why n v.stats.retired (length a.trace) v.now (inl refl));
        }) in (
          subst (λ r. StandsAt s core trace r mail (idle_view a why (suc n))) (replicate-more n idle_step steps) stands,
          ap (λ r. r ++ (step s core trace r mail).0 ∷ []) d.1 ∙ ap (λ (x : CoreStep × Stop). before ++ x.0 ∷ []) t.does ∙ replicate-more n idle_step steps,
        )

pub rest-standing : (a : CoreView) → HasSomePast a → IsStanding a
rest-standing a may = record { s = may.s; core = may.core; trace = may.trace; steps = may.steps; mail = may.mail; stands = stands-at may.s may.core may.trace may.steps may.mail a may.stands }

pub step_is_idle : (core_step : CoreStep) → core_step.retired ≡ 0 → core_step.issued ≡ 0 → core_step ≡ idle_step
step_is_idle core_step e f = let both : ℕ → ℕ → CoreStep = λ r i. record { retired = r; issued = i } in ap₂ both e f

does_step : (s : Config) (core : ℕ) (trace : List Entry) (steps : List CoreStep) (mail : List Message) (a : CoreView) (core_step : CoreStep) (why : Stop) (memory : Option MemoryEntry)
    → Does a core_step why memory → StandsFor s core trace steps mail a → (step s core trace steps mail).0 ≡ core_step
does_step s core trace steps mail a core_step why memory cycle_work h =
    ap (λ (x : CoreStep × Stop). x.0) (cycle_work a s core trace steps mail (like-self a) (stands-at s core trace steps mail a h)).does

pub at_rest : (s : Config) (core : ℕ) (trace : List Entry) (steps : List CoreStep) (mail : List Message) (a : CoreView) (core_step : CoreStep) (why : Stop) (memory : Option MemoryEntry)
    → core_step ≡ idle_step → Does a core_step why memory → StandsFor s core trace steps mail a → NeverActs s core trace steps mail
at_rest s core trace steps mail a core_step why memory e cycle_work h =
    record {
      now = does_step s core trace steps mail a core_step why memory cycle_work h ∙ e;
      rests = λ n. (idle-stands s core trace steps mail a why memory (subst (λ r. Does a r why memory) e cycle_work) (stands-at s core trace steps mail a h) n).1;
    }

pub first_act : (s : Config) (core : ℕ) (trace : List Entry) (steps : List CoreStep) (mail : List Message) (a : CoreView) (core_step : CoreStep) (why : Stop) (memory : Option MemoryEntry) (from : ℕ)
    → a.now ≡ from → (core_step ≡ idle_step → ⊥) → Does a core_step why memory → StandsFor s core trace steps mail a → IsFirstAct s core trace steps mail from
unfolding core_run
first_act s core trace steps mail a core_step why memory from at acts cycle_work h =
    let z : from - length steps ≡ 0 = omega (arith, h.now) in
    record {
      since = omega (arith, h.now);
      rests = λ n l. let none : n ≡ 0 = omega (arith, h.now) in subst (λ k. Rests s core trace steps mail k) (sym none) (sym (append-nil steps));
      acts = λ e. acts (sym (does_step s core trace steps mail a core_step why memory cycle_work h) ∙ ap (λ k. (step s core trace (core_run s core trace steps mail k) mail).0) (sym z) ∙ e);
    }

-- a core whose next entry is done retires it
pub retires-first : (s : Config) (core : ℕ) (trace : List Entry) (steps : List CoreStep) (mail : List Message) (a : CoreView) (from : ℕ) → a.now ≡ from → 0 < a.config.width
    → a.stats.retired < first_undone a.stats.issued a.outstanding → StandsFor s core trace steps mail a → IsFirstAct s core trace steps mail from
unfolding core_run step
retires-first s core trace steps mail a from at width done h =
    let z : from - length steps ≡ 0 = omega (arith, h.now) in
    let st : StandsAt s core trace steps mail a = stands-at s core trace steps mail a h in
    let P : Config → ℕ → ℕ → List OutstandingRead → Type 0 = λ x i r ws. (0 < x.width) × (r < first_undone i ws) in
    let f1 : P s a.stats.issued a.stats.retired a.outstanding = subst (λ x. P x a.stats.issued a.stats.retired a.outstanding) h.config (width, done) in
    let f2 : P s (issued_before steps) a.stats.retired a.outstanding = subst (λ x. P s x a.stats.retired a.outstanding) (issued_of s core trace steps mail a st) f1 in
    let f3 : P s (issued_before steps) (retired_before steps) a.outstanding = subst (λ x. P s (issued_before steps) x a.outstanding) (retired_of s core trace steps mail a st) f2 in
    let f4 : P s (issued_before steps) (retired_before steps) (outstanding_reads trace steps mail) = subst (P s (issued_before steps) (retired_before steps)) h.outstanding f3 in
    record {
      since = omega (arith, h.now);
      rests = λ n l. let none : n ≡ 0 = omega (arith, h.now) in subst (λ k. Rests s core trace steps mail k) (sym none) (sym (append-nil steps));
      acts = λ e.
          let idle : (step s core trace steps mail).0 ≡ idle_step = ap (λ k. (step s core trace (core_run s core trace steps mail k) mail).0) (sym z) ∙ e in
          let none : retires s trace steps mail ≡ 0 = ap (λ (r : CoreStep). r.retired) idle in
          omega (arith, f4.0, f4.1, none, retires-by s core trace steps mail h.past);
    }

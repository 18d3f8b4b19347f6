-- Cycles in which a core does the same count as a product.
use Rattle.std.proofs.Common.{◌≡◌, ℕ, zero, suc, ◌+◌, ◌-◌, ◌*◌, ◌^◌, ◌<◌, ◌≤◌, ◌⊎◌, Bool, true, false, cond, ◌&&◌, ltb, leb, List, [], length, Option, Some, None, refl, sym, ap, ap₂, subst, ◌∙◌, add-zero, inl, inr, arith, ⊎_elim}
use Rattle.std.specs.Prelude.{Result, Ok, Err}
use Rattle.std.specs.Prelude.{OnOk}
use Rattle.std.proofs.lemmas.List.{append-nil}
use Rattle.std.proofs.lemmas.Bool.{cases_lt, le-ltb, lt-leb}
use Rattle.std.proofs.Math.Nat.{suc-mul}
use Rattle.sim_base.specs.History.{issued_before}
use Rattle.sim_base.specs.Machine.{core_run}
use Rattle.sim_base.specs.declared.history.CoreStep.{CoreStep}
use Rattle.sim_base.specs.declared.message.Message.{Message}
use Rattle.sim_base.specs.declared.trace.Entry.{Entry}
use Rattle.sim_base.specs.declared.trace.Stop.{Stop}
use Rattle.cpu_trace.specs.declared.entries.MemoryEntry.{MemoryEntry}
use Rattle.statistics.specs.Cores.{core_joined, core_times, CoreFits, unanswered_cycle}
use Rattle.statistics.proofs.CoreStretches.{core_joined-assoc, core_joined-none}
use Rattle.statistics.proofs.Repeats.{core_times-more, core_times-zero}
use Rattle.statistics.specs.declared.cores.CoreStats.{CoreStats}
use Rattle.core_window.specs.Inside.{StandsAt, IsStanding, IsLike, Advances, GoesOn, GoesOnWithoutSending, Does}
use Rattle.core_window.specs.Rests.{idle_step}
use Rattle.core_window.specs.Steady.{steady_counts, steady_view, IsSteady}
use Rattle.core_window.specs.OneCycle.{IsWork, IsIssued, cycle_counts}
use Rattle.core_window.specs.Views.{CoreView}
use Rattle.core_window.proofs.Running.{IsUnderway, advances-none, advances-add}
use Rattle.core_window.proofs.Stepping.{IsStep, step-advances, step-fits}

-- the last entry does not retire in a cycle
no_finish : (before r len now : ℕ) → (r ≡ 0) ⊎ (before + r < len) → cond {A = Option ℕ} (ltb before len && leb len (before + r)) (Some now) None ≡ None
no_finish before r len now (inl e) =
    ⊎_elim
    (λ l. ap (λ b. cond (ltb before len && b) (Some now) None) (lt-leb len (before + r) (omega arith)) ∙ ap (λ b. cond b (Some now) None) (and_false (ltb before len)))
    (λ g. ap (λ b. cond (b && leb len (before + r)) (Some now) None) (le-ltb before len g))
    (cases_lt before len)
  where
    and_false : (b : Bool) → (b && false) ≡ false
    and_false true = refl
    and_false false = refl
no_finish before r len now (inr h) =
    ap (λ b. cond (ltb before len && b) (Some now) None) (lt-leb len (before + r) h) ∙ ap (λ b. cond b (Some now) None) (and_false (ltb before len))
  where
    and_false : (b : Bool) → (b && false) ≡ false
    and_false true = refl
    and_false false = refl

-- the counts of cycles in which a core does the same, with one cycle more
pub steady-more : (a : CoreStats) (core_step : CoreStep) (why : Stop) (n before len later : ℕ) → (core_step.retired ≡ 0) ⊎ (before + core_step.retired < len)
    → core_joined (core_joined a (core_times n (steady_counts core_step why))) (cycle_counts core_step why None before len later) ≡ core_joined a (core_times (suc n) (steady_counts core_step why))
steady-more a core_step why n before len later h =
    let each = steady_counts core_step why in
    core_joined-assoc a (core_times n each) (cycle_counts core_step why None before len later)
    ∙ ap (λ o. core_joined a (core_joined (core_times n each) (unanswered_cycle core_step why 0 0 o))) (no_finish before core_step.retired len later h)
    ∙ ap (core_joined a) (core_times-more n each)

none_counted : (x : CoreStats) (core_step : CoreStep) (why : Stop) → core_joined x (core_times 0 (steady_counts core_step why)) ≡ x
none_counted x core_step why = ap (core_joined x) (core_times-zero (steady_counts core_step why)) ∙ core_joined-none x

pub steady-none : (a : CoreView) (core_step : CoreStep) (why : Stop) → a ≡ steady_view a core_step why 0
steady-none a core_step why =
    let with : ℕ → CoreStats → CoreView = λ n st. record a { now = n; stats = st } in
    ap₂ with (sym (add-zero a.now)) (sym (none_counted a.stats core_step why))

-- a shorter stretch
steady-fewer : (a : CoreView) (n : ℕ) (core_step : CoreStep) (why : Stop) → IsSteady a (suc n) core_step why → IsSteady a n core_step why
steady-fewer a n core_step why h =
    record {
      works = λ k l. h.works k (omega arith);
      unfinished =
          let e = suc-mul n core_step.retired in
          ⊎_elim (λ z. inl (omega arith)) (λ l. inr (omega arith)) h.unfinished;
    }

-- in the last cycle of a stretch the last entry of the trace does not retire
last-unfinished : (a : CoreView) (n : ℕ) (core_step : CoreStep) (why : Stop) → IsSteady a (suc n) core_step why
    → (core_step.retired ≡ 0) ⊎ (a.stats.retired + n * core_step.retired + core_step.retired < length a.trace)
last-unfinished a n core_step why h =
    let e = suc-mul n core_step.retired in
    ⊎_elim (λ z. inl (omega arith)) (λ l. inr (omega arith)) h.unfinished

steady-step : (a : CoreView) (n : ℕ) (core_step : CoreStep) (why : Stop) → IsSteady a (suc n) core_step why → IsStep (steady_view a core_step why n) (steady_view a core_step why (suc n)) core_step why None
steady-step a n core_step why h =
    record {
      config = refl;
      number = refl;
      entries = refl;
      now = omega arith;
      outstanding = sym (append-nil a.outstanding);
      channels = refl;
      credits = λ channel c e. e;
      stats = sym (steady-more a.stats core_step why n (a.stats.retired + n * core_step.retired) (length a.trace) (a.now + n) (last-unfinished a n core_step why h));
    }

pub steady-advances : (a : CoreView) (n : ℕ) (core_step : CoreStep) (why : Stop) (sent : List Message) → IsSteady a n core_step why → Advances n a sent (steady_view a core_step why n) sent
steady-advances a zero core_step why sent h = subst (λ (v : CoreView). Advances 0 a sent v sent) (steady-none a core_step why) (advances-none a sent)
steady-advances a (suc n) core_step why sent h =
    let v = steady_view a core_step why n in
    let one : Advances 1 v sent (steady_view a core_step why (suc n)) sent =
    step-advances v (steady_view a core_step why (suc n)) core_step why None sent sent (h.works n (omega arith)) (steady-step a n core_step why h) (sym (append-nil sent)) in
    let sum : n + 1 ≡ suc n = omega arith in
    subst (λ k. Advances k a sent (steady_view a core_step why (suc n)) sent) sum
    (advances-add n 1 a v (steady_view a core_step why (suc n)) sent sent sent (steady-advances a n core_step why sent (steady-fewer a n core_step why h)) one)

-- the counts of a core fit their words after a stretch
pub steady-fits : (a : CoreView) (n : ℕ) (core_step : CoreStep) (why : Stop) → IsStanding a → IsSteady a n core_step why → 0 < n → length a.trace ≤ 2 ^ 62 → a.now + n < 2 ^ 62
    → CoreFits (core_joined a.stats (core_times n (steady_counts core_step why)))
steady-fits a zero core_step why i h l len early = absurd (omega arith)
steady-fits a (suc n) core_step why i h l len early =
    let v = steady_view a core_step why n in
    let steps = core_run i.s i.core i.trace i.steps i.mail n in
    let st : StandsAt i.s i.core i.trace steps i.mail v = ((steady-advances a n core_step why [] (steady-fewer a n core_step why h)).sends i.s i.core i.trace i.steps i.mail i.stands).0 in
    subst CoreFits (steady-more a.stats core_step why n (a.stats.retired + n * core_step.retired) (length a.trace) (a.now + n) (last-unfinished a n core_step why h))
    (step-fits i.s i.core i.trace steps i.mail v core_step why None st (h.works n (omega arith) i.s i.core i.trace steps i.mail st) len (omega arith))

pub idle-like : (a : CoreView) (why : Stop) (n : ℕ) → IsLike a (steady_view a idle_step why n)
idle-like a why n = record { config = refl; entries = refl; outstanding = refl; credits = refl; issued = omega arith; retired = omega arith }

-- no memory entry is among none
pub none_issues : (trace : List Entry) (first : ℕ) (memory : Option MemoryEntry) → IsIssued trace first 0 memory → memory ≡ None
none_issues trace first None h = refl
none_issues trace first (Some e) h = absurd (omega (arith, h.is_from, h.is_below))

idle-steady : (a : CoreView) (why : Stop) (memory : Option MemoryEntry) (n : ℕ) → Does a idle_step why memory → IsSteady a n idle_step why
idle-steady a why memory n does =
    record {
      works = λ k l s core trace steps mail h.
          let t : IsWork s core trace steps mail idle_step why memory = does (steady_view a idle_step why k) s core trace steps mail (idle-like a why k) h in
          subst (IsWork s core trace steps mail idle_step why) (none_issues trace (issued_before steps) memory t.issues) t;
      unfinished = inl (omega arith);
    }

-- a core that does nothing in a cycle does nothing in those after it
pub rest-steady : (a : CoreView) (core_step : CoreStep) (why : Stop) (memory : Option MemoryEntry) (n : ℕ) → core_step.retired ≡ 0 → core_step.issued ≡ 0 → Does a core_step why memory → IsSteady a n core_step why
rest-steady a core_step why memory n e f does =
    let both : ℕ → ℕ → CoreStep = λ r i. record { retired = r; issued = i } in
    let idle : core_step ≡ idle_step = ap₂ both e f in
    subst (λ r. IsSteady a n r why) (sym idle) (idle-steady a why memory n (subst (λ r. Does a r why memory) idle does))

-- a core that goes on by a stretch
pub steady-goes : (a b : CoreView) (n until : ℕ) (core_step : CoreStep) (why : Stop) (sent : List Message) → IsSteady a n core_step why → b ≡ steady_view a core_step why n → 0 < n → a.now + n ≤ until
    → GoesOn until a sent b sent
steady-goes a b n until core_step why sent h e l u =
    let e2 : steady_view a core_step why n ≡ b = sym e in
    let retired_by_end : n ≡ a.now + n - a.now = omega arith in
    subst (λ v. GoesOn until a sent v sent) e2
    (record {
      later = omega arith;
      until_then = u;
      advances = subst (λ k. Advances k a sent (steady_view a core_step why n) sent) retired_by_end (steady-advances a n core_step why sent h);
    })

-- a core that goes on by a cycle
pub cycle-goes : (a b : CoreView) (until : ℕ) (before after : List Message) → a.now < until → b.now ≡ a.now + 1 → Advances 1 a before b after → GoesOn until a before b after
cycle-goes a b until before after l e h =
    let retired_by_end : 1 ≡ b.now - a.now = omega arith in
    record { later = omega arith; until_then = omega arith; advances = subst (λ k. Advances k a before b after) retired_by_end h }

-- no cycle
pub unsent-none : (a : CoreView) (until : ℕ) → a.now ≤ until → GoesOnWithoutSending until a a
unsent-none a until l =
    let z : a.now - a.now ≡ 0 = omega arith in
    record {
      since = omega arith;
      until_then = l;
      advances = λ sent. subst (λ n. Advances n a sent a sent) (sym z) (advances-none a sent);
    }

-- a stretch
pub unsent-steady : (a b : CoreView) (n until : ℕ) (core_step : CoreStep) (why : Stop) → IsSteady a n core_step why → b ≡ steady_view a core_step why n → a.now + n ≤ until → GoesOnWithoutSending until a b
unsent-steady a b n until core_step why h e u =
    let retired_by_end : n ≡ a.now + n - a.now = omega arith in
    subst (GoesOnWithoutSending until a) (sym e)
    (record {
      since = omega arith;
      until_then = u;
      advances = λ sent. subst (λ k. Advances k a sent (steady_view a core_step why n) sent) retired_by_end (steady-advances a n core_step why sent h);
    })

pub unsent-standing : (a b : CoreView) (until : ℕ) → GoesOnWithoutSending until a b → IsStanding a → IsStanding b
unsent-standing a b until h i =
    record { s = i.s; core = i.core; trace = i.trace; steps = core_run i.s i.core i.trace i.steps i.mail (b.now - a.now); mail = i.mail; stands = ((h.advances []).sends i.s i.core i.trace i.steps i.mail i.stands).0 }

-- a stretch in which nothing is sent, and then the rest of the way
pub unsent-then : (a b d : CoreView) (until : ℕ) (x z : List Message) → GoesOnWithoutSending until a b → GoesOn until b x d z → GoesOn until a x d z
unsent-then a b d until x z q g =
    let sum : (b.now - a.now) + (d.now - b.now) ≡ d.now - a.now = omega (arith, q.since, g.later) in
    record {
      later = omega (arith, q.since, g.later);
      until_then = g.until_then;
      advances = subst (λ n. Advances n a x d z) sum (advances-add (b.now - a.now) (d.now - b.now) a b d x x z (q.advances x) g.advances);
    }

pub underway-unsent : (until : ℕ) (a b d : CoreView) (x y : List Message) → IsUnderway until a x b y → GoesOnWithoutSending until b d → IsUnderway until a x d y
underway-unsent until a b d x y u q =
    let sum : (b.now - a.now) + (d.now - b.now) ≡ d.now - a.now = omega (arith, u.since, q.since) in
    record {
      since = omega (arith, u.since, q.since);
      until_then = q.until_then;
      advances = subst (λ n. Advances n a x d y) sum (advances-add (b.now - a.now) (d.now - b.now) a b d x y y u.advances (q.advances y));
    }

pub unsent-all : (a b : CoreView) (until : ℕ) (x : List Message) → GoesOnWithoutSending until a b → a.now < until → until ≤ b.now → GoesOn until a x b x
unsent-all a b until x q l m = record { later = omega arith; until_then = q.until_then; advances = q.advances x }

pub ok-map : {T E : Type 0} (r : Result T E) (P Q : Type 0) → (P → Q) → OnOk r P → OnOk r Q
ok-map (Ok x) P Q f p = f p
ok-map (Err e) P Q f p = p

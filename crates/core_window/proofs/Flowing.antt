-- A run of Plain entries goes through the window of a core by its width.
use Rattle.std.proofs.Common.{◌≡◌, ℕ, zero, suc, ◌+◌, ◌-◌, ◌*◌, ◌<◌, ◌≤◌, ◌⊎◌, min, Bool, true, false, ◌&&◌, eqb, ltb, List, length, None, refl, sym, subst, inl, inr, arith, ⊎_elim}
use Rattle.std.specs.Prelude.{slice_get}
use Rattle.std.proofs.Math.Nat.{mul-le-mul_right, mul-le-mul_left}
use Rattle.std.proofs.lemmas.Bool.{cases_lt, ne_eqb, eq-eqb}
use Rattle.sim_base.specs.declared.config.Config.{Config}
use Rattle.sim_base.specs.History.{retired_before, issued_before, core_messages}
use Rattle.sim_base.specs.Windows.{lacks_credit}
use Rattle.sim_base.specs.declared.history.CoreStep.{CoreStep}
use Rattle.sim_base.specs.declared.message.Message.{Message}
use Rattle.sim_base.specs.declared.trace.Entry.{Entry}
use Rattle.sim_base.specs.declared.trace.Stop.{Stop}
use Rattle.sim_base.specs.declared.trace.Stop.TheVariants as stop
use Rattle.core_window.specs.Causes.{first_undone, issue_count, cause_at}
use Rattle.core_window.specs.Inside.{StandsAt}
use Rattle.core_window.specs.Stands.{IsPast}
use Rattle.core_window.specs.Steady.{steady_view, IsSteady, IsFlow}
use Rattle.core_window.specs.OneCycle.{IsAhead, IsLast, IsWork}
use Rattle.core_window.specs.Views.{CoreView}
use Rattle.core_window.specs.Outstanding.{outstanding_reads}
use Rattle.core_window.specs.declared.outstanding.OutstandingRead.{OutstandingRead}
use Rattle.core_window.proofs.Stopping.{is_last}
use Rattle.core_window.proofs.Working.{cycle_work-from, issued_of}
use Rattle.core_window.proofs.Stepping.{retired_of}

more_times : (k n w : ℕ) → k < n → k * w + w ≤ n * w
more_times k n w l =
    let e : suc k * w ≡ k * w + w = grind arith in
    let h : suc k * w ≤ n * w = mul-le-mul_right w (omega arith) in
    omega arith

-- what lets a core issue its width of Plain entries in a cycle
record IsPlain (s : Config) (trace : List Entry) (issued retired : ℕ) (outstanding : List OutstandingRead) (r first_at second_at : ℕ) : Type 0 where
  ahead : IsAhead trace issued first_at second_at
  plain : issued + s.width ≤ first_at
  more : issued + s.width < length trace
  retires : r ≡ min s.width (first_undone issued outstanding - retired)
  room : issued + s.width ≤ retired + r + s.window

two_from : (trace : List Entry) (number first_at second_at : ℕ) → IsAhead trace number first_at second_at → first_at ≤ second_at
two_from trace number first_at second_at h =
    ⊎_elim (λ inside. omega (arith, (h.second inside).is_from)) (λ none. let e = h.none none in omega (arith, h.first.is_within)) (cases_lt first_at (length trace))

count-plain : (width window number retired_by_end first_at second_at : ℕ) (lacks : Bool) → number + width ≤ first_at → first_at ≤ second_at → retired_by_end ≤ number → number + width ≤ retired_by_end + window
    → width ≡ issue_count width window number retired_by_end first_at second_at lacks
count-plain width window number retired_by_end first_at second_at true l m g room = omega arith
count-plain width window number retired_by_end first_at second_at false l m g room = omega arith

cause-plain : (width window len number retired_by_end second_at : ℕ) → number + width < len → cause_at width window len number retired_by_end second_at width ≡ stop.Width
cause-plain width window len number retired_by_end second_at l =
    let e1 : eqb (number + width) len ≡ false = ne_eqb _ _ (λ e. omega arith) in
    let e2 : eqb width width ≡ true = eq-eqb _ _ refl in
    rw (e1, e2) refl

plain-cycle_work : (s : Config) (core : ℕ) (trace : List Entry) (steps : List CoreStep) (mail : List Message) (r first_at second_at : ℕ) → IsPast s core trace steps mail
    → IsPlain s trace (issued_before steps) (retired_before steps) (outstanding_reads trace steps mail) r first_at second_at
    → IsWork s core trace steps mail (record { retired = r; issued = s.width }) stop.Width None
plain-cycle_work s core trace steps mail r first_at second_at past h =
    cycle_work-from s core trace steps mail r first_at second_at lacks s.width stop.Width None past
    (record {
      retired = h.retires;
      ahead = h.ahead;
      credit = refl;
      last = λ may. subst (λ why. IsLast s core trace mail sent now first (before + r) first_at second_at lacks s.width why)
          (cause-plain s.width s.window (length trace) first (before + r) second_at h.more)
          (is_last s core trace mail sent now first (before + r) first_at second_at lacks may s.width
          (count-plain s.width s.window first (before + r) first_at second_at lacks h.plain (two_from trace first first_at second_at h.ahead) may.retired h.room));
      issues = λ k l b. h.ahead.first.is_plain_before k l (omega (arith, h.plain));
      at = tt;
    })
  where
    sent : List Message
    sent = core_messages s core trace steps

    now : ℕ
    now = length steps

    first : ℕ
    first = issued_before steps

    before : ℕ
    before = retired_before steps

    lacks : Bool
    lacks = ltb first_at (length trace) && lacks_credit s core mail sent now (slice_get trace first_at)

-- entries of a run that issue leave the next memory entries where they are
ahead-later : (trace : List Entry) (number later first_at second_at : ℕ) → IsAhead trace number first_at second_at → number ≤ later → later ≤ first_at → IsAhead trace later first_at second_at
ahead-later trace number later first_at second_at h l m =
    record {
      first = record {
        is_from = m;
        is_within = h.first.is_within;
        is_plain_before = λ k a b. h.first.is_plain_before k (omega arith) b;
        is_read_or_write = h.first.is_read_or_write;
      };
      second = h.second;
      none = h.none;
    }

plain-at : (s : Config) (core : ℕ) (trace : List Entry) (steps : List CoreStep) (mail : List Message) (v : CoreView) (r first_at second_at : ℕ) → StandsAt s core trace steps mail v
    → IsPlain v.config v.trace v.stats.issued v.stats.retired v.outstanding r first_at second_at → IsWork s core trace steps mail (record { retired = r; issued = v.config.width }) stop.Width None
plain-at s core trace steps mail v r first_at second_at h plain =
    let P : Config → List Entry → ℕ → ℕ → List OutstandingRead → Type 0 = λ x t n b w. IsPlain x t n b w r first_at second_at in
    let f1 : P s v.trace v.stats.issued v.stats.retired v.outstanding = subst (λ x. P x v.trace v.stats.issued v.stats.retired v.outstanding) h.config plain in
    let f2 : P s trace v.stats.issued v.stats.retired v.outstanding = subst (λ x. P s x v.stats.issued v.stats.retired v.outstanding) h.entries f1 in
    let f3 : P s trace (issued_before steps) v.stats.retired v.outstanding = subst (λ x. P s trace x v.stats.retired v.outstanding) (issued_of s core trace steps mail v h) f2 in
    let f4 : P s trace (issued_before steps) (retired_before steps) v.outstanding = subst (λ x. P s trace (issued_before steps) x v.outstanding) (retired_of s core trace steps mail v h) f3 in
    let f5 : P s trace (issued_before steps) (retired_before steps) (outstanding_reads trace steps mail) = subst (λ x. P s trace (issued_before steps) (retired_before steps) x) h.outstanding f4 in
    subst (λ (x : Config). IsWork s core trace steps mail (record { retired = r; issued = x.width }) stop.Width None) (sym h.config)
    (plain-cycle_work s core trace steps mail r first_at second_at h.past f5)

least-le : (a b r : ℕ) → r ≡ min a b → r ≤ a
least-le a b r e = omega arith

unfinished : (width window issued retired len r n : ℕ) (outstanding : List OutstandingRead) → IsFlow width window issued retired outstanding r n → retired ≤ issued → issued + n * width < len
    → (n * r ≡ 0) ⊎ (retired + n * r < len)
unfinished width window issued retired len r zero outstanding h l m = inl (omega arith)
unfinished width window issued retired len r (suc n) outstanding h l m =
    let few : r ≤ width = least-le width _ r (h.retires 0 (omega arith)) in
    let most : suc n * r ≤ suc n * width = mul-le-mul_left (suc n) few in
    inr (omega arith)

-- a stretch of Plain entries
pub flow-steady : (a : CoreView) (first_at second_at r n : ℕ) → IsAhead a.trace a.stats.issued first_at second_at → a.stats.retired ≤ a.stats.issued
    → a.stats.issued + n * a.config.width ≤ first_at → a.stats.issued + n * a.config.width < length a.trace
    → IsFlow a.config.width a.config.window a.stats.issued a.stats.retired a.outstanding r n
    → IsSteady a n (record { retired = r; issued = a.config.width }) stop.Width
flow-steady a first_at second_at r n ahead l plain more flow =
    record {
      works = λ k b s core trace steps mail h.
          let up = more_times k n a.config.width b in
          plain-at s core trace steps mail (steady_view a (record { retired = r; issued = a.config.width }) stop.Width k) r first_at second_at h
          (record {
            ahead = ahead-later a.trace a.stats.issued (a.stats.issued + k * a.config.width) first_at second_at ahead (omega arith) (omega arith);
            plain = omega arith;
            more = omega arith;
            retires = flow.retires k b;
            room = flow.room k b;
          });
      unfinished = unfinished a.config.width a.config.window a.stats.issued a.stats.retired (length a.trace) r n a.outstanding flow l more;
    }

pub flow-none : (a : CoreView) (core_step : CoreStep) (why : Stop) → IsSteady a 0 core_step why
flow-none a core_step why = record { works = λ k l. absurd (omega arith); unfinished = inl (omega arith) }

-- up to the next memory entry, and up to the last entry of the trace
pub flow-here : (a : CoreView) (first_at second_at r n plain : ℕ) (outstanding : List OutstandingRead) → IsAhead a.trace a.stats.issued first_at second_at → a.stats.retired ≤ a.stats.issued → 0 < a.config.width
    → n * a.config.width ≤ plain → plain ≡ min first_at (length a.trace - 1) - a.stats.issued
    → outstanding ≡ a.outstanding → IsFlow a.config.width a.config.window a.stats.issued a.stats.retired outstanding r n
    → IsSteady a n (record { retired = r; issued = a.config.width }) stop.Width
flow-here a first_at second_at r zero plain outstanding ahead l positive few is same flow = flow-none a (record { retired = r; issued = a.config.width }) stop.Width
flow-here a first_at second_at r (suc n) plain outstanding ahead l positive few is same flow =
    let some : suc n * a.config.width ≡ n * a.config.width + a.config.width = grind arith in
    let from = ahead.first.is_from in
    flow-steady a first_at second_at r (suc n) ahead l (omega arith) (omega arith)
    (subst (λ ws. IsFlow a.config.width a.config.window a.stats.issued a.stats.retired ws r (suc n)) same flow)

-- Where the first entry of a full window waits, none retires and none issues.
use Rattle.std.proofs.Common.{cond, eqb, zero, suc, [], ◌∷◌, ◌<◌, List, Some, ⊎_elim, Bool, true, false, ◌≡◌, ◌&&◌, ℕ, length, refl, sym, ap, ◌∙◌, ltb, ◌-◌, ◌+◌, ◌≤◌, None, subst, add-zero, arith}
use Rattle.std.specs.Prelude.{slice_get}
use Rattle.sim_base.specs.History.{core_messages}
use Rattle.std.specs.Prelude.{Option}
use Rattle.std.proofs.lemmas.Bool.{cases_lt, ne_eqb, eq-eqb, and_from, lt-ltb}
use Rattle.sim_base.specs.Windows.{is_memory_in, lacks_credit}
use Rattle.sim_base.specs.declared.trace.Entry.{Entry}
use Rattle.sim_base.specs.declared.trace.Stop.{Stop}
use Rattle.sim_base.specs.declared.trace.Stop.TheVariants.{Credit, End, Window}
use Rattle.core_window.specs.Causes.{first_undone, issue_count, cause_at}
use Rattle.core_window.specs.Inside.{Does, IsLike, StandsAt}
use Rattle.core_window.specs.Rests.{idle_step, NeverActs}
use Rattle.core_window.specs.Stands.{StandsFor}
use Rattle.core_window.proofs.Resting.{at_rest}
use Rattle.sim_base.specs.declared.config.Config.{Config}
use Rattle.sim_base.specs.declared.history.CoreStep.{CoreStep}
use Rattle.sim_base.specs.declared.message.Message.{Message}
use Rattle.core_window.specs.OneCycle.{IsLast, IsNextOrEnd, IsSeen}
use Rattle.sim_base.specs.declared.trace.Entry.TheVariants.{Plain, Read, Write}
use Rattle.core_window.specs.Views.{CoreView}
use Rattle.core_window.proofs.Stopping.{is_last}
use Rattle.core_window.proofs.Working.{cycle_work-is}

no_issue : (width window number retired_by_end first_at second_at : ℕ) (lacks : Bool) → window ≤ number - retired_by_end → 0 ≡ issue_count width window number retired_by_end first_at second_at lacks
no_issue width window number retired_by_end first_at second_at true l = omega arith
no_issue width window number retired_by_end first_at second_at false l = omega arith

-- why it stops
abbrev pub stalled_cause : CoreView → ℕ → Stop
stalled_cause a second_at = cause_at a.config.width a.config.window (length a.trace) a.stats.issued a.stats.retired second_at 0

pub stalled-does : (a : CoreView) (first_at second_at : ℕ) (entry : Entry) → IsSeen a.trace a.stats.issued first_at second_at entry
    → first_undone a.stats.issued a.outstanding ≤ a.stats.retired → a.config.window ≤ a.stats.issued - a.stats.retired → Does a idle_step (stalled_cause a second_at) None
stalled-does a first_at second_at entry seen undone most v s core trace steps mail i h =
    let retired_by_end = a.stats.retired + 0 in
    let full : Bool = ltb first_at (length a.trace) && lacks_credit a.config core mail (core_messages s core trace steps) (length steps) (slice_get a.trace first_at) in
    let none : 0 ≡ issue_count a.config.width a.config.window a.stats.issued retired_by_end first_at second_at full = no_issue a.config.width a.config.window a.stats.issued retired_by_end first_at second_at full (omega arith) in
    let cause : cause_at a.config.width a.config.window (length a.trace) a.stats.issued retired_by_end second_at 0 ≡ stalled_cause a second_at =
    ap (λ g. cause_at a.config.width a.config.window (length a.trace) a.stats.issued g second_at 0) (add-zero a.stats.retired) in
    cycle_work-is s core trace steps mail a v 0 first_at second_at full 0 (stalled_cause a second_at) None i h
    (record {
      retired = omega arith;
      ahead = seen.ahead;
      credit = refl;
      last = λ may. subst
          (λ why. IsLast a.config core a.trace mail (core_messages s core trace steps) (length steps) a.stats.issued retired_by_end first_at second_at full 0 why) cause
          (is_last a.config core a.trace mail (core_messages s core trace steps) (length steps) a.stats.issued retired_by_end first_at second_at full may 0 none);
      issues = λ k l b. absurd (omega arith);
      at = tt;
    })

pub stalled_cause-full : (a : CoreView) (second_at : ℕ) → 0 < a.config.width → a.stats.issued - a.stats.retired ≡ a.config.window → stalled_cause a second_at ≡ cond (eqb a.stats.issued (length a.trace)) End Window
stalled_cause-full a second_at some full =
    let not_width : eqb 0 a.config.width ≡ false = ne_eqb 0 a.config.width (λ e. omega arith) in
    let is_window : eqb (a.stats.issued - a.stats.retired) a.config.window ≡ true = eq-eqb (a.stats.issued - a.stats.retired) a.config.window full in
    rw (add-zero a.stats.issued, not_width, is_window) refl

-- ---- where the next entry lacks a credit
no_issue_short : (width window number retired_by_end first_at second_at : ℕ) → first_at ≤ number → 0 ≡ issue_count width window number retired_by_end first_at second_at true
no_issue_short width window number retired_by_end first_at second_at l = omega arith

short_cause : (width window len number retired_by_end second_at : ℕ) → 0 < width → number < len → number - retired_by_end < window → number < second_at
    → cause_at width window len number retired_by_end second_at 0 ≡ Credit
short_cause width window len number retired_by_end second_at some inside room before =
    let not_end : eqb (number + 0) len ≡ false = ne_eqb (number + 0) len (λ e. omega (arith, e, inside)) in
    let not_width : eqb 0 width ≡ false = ne_eqb 0 width (λ e. omega (arith, e, some)) in
    let not_window : eqb (number + 0 - retired_by_end) window ≡ false = ne_eqb (number + 0 - retired_by_end) window (λ e. omega (arith, e, room)) in
    let not_second : eqb (number + 0) second_at ≡ false = ne_eqb (number + 0) second_at (λ e. omega (arith, e, before)) in
    rw (not_end, not_width, not_window, not_second) refl

-- a core that lacks a credit for its next entry, and retires none, does nothing
pub short-does : (a : CoreView) (first_at second_at : ℕ) (entry : Entry) → IsSeen a.trace a.stats.issued first_at second_at entry → first_undone a.stats.issued a.outstanding ≤ a.stats.retired
    → first_at ≤ a.stats.issued → a.stats.issued < length a.trace → a.stats.issued - a.stats.retired < a.config.window
    → ((v : CoreView) (s : Config) (core : ℕ) (trace : List Entry) (steps : List CoreStep) (mail : List Message) → IsLike a v → StandsAt s core trace steps mail v
    → lacks_credit a.config core mail (core_messages s core trace steps) (length steps) (Some entry) ≡ true)
    → Does a idle_step Credit None
short-does a first_at second_at entry seen undone at inside room lacks v s core trace steps mail i h =
    let retired_by_end = a.stats.retired + 0 in
    let credit = λ (o : Option Entry). lacks_credit a.config core mail (core_messages s core trace steps) (length steps) o in
    let full : Bool = ltb first_at (length a.trace) && lacks_credit a.config core mail (core_messages s core trace steps) (length steps) (slice_get a.trace first_at) in
    let below : first_at < length a.trace = omega (arith, at, inside) in
    let is_full : full ≡ true =
    and_from (ltb first_at (length a.trace)) (credit (slice_get a.trace first_at)) (lt-ltb first_at (length a.trace) below) (ap credit (seen.is_at below) ∙ lacks v s core trace steps mail i h) in
    let none : 0 ≡ issue_count a.config.width a.config.window a.stats.issued retired_by_end first_at second_at full =
    subst (λ b. 0 ≡ issue_count a.config.width a.config.window a.stats.issued retired_by_end first_at second_at b) (sym is_full)
    (no_issue_short a.config.width a.config.window a.stats.issued retired_by_end first_at second_at at) in
    let cause : cause_at a.config.width a.config.window (length a.trace) a.stats.issued retired_by_end second_at 0 ≡ Credit =
    short_cause a.config.width a.config.window (length a.trace) a.stats.issued retired_by_end second_at (omega (arith, a.config.core_in_range.width_in)) inside (omega (arith, room))
    (omega (arith, (seen.ahead.second below).is_from, seen.ahead.first.is_from)) in
    cycle_work-is s core trace steps mail a v 0 first_at second_at full 0 Credit None i h
    (record {
      retired = omega (arith, undone);
      ahead = seen.ahead;
      credit = refl;
      last = λ may. subst
          (λ why. IsLast a.config core a.trace mail (core_messages s core trace steps) (length steps) a.stats.issued retired_by_end first_at second_at full 0 why) cause
          (is_last a.config core a.trace mail (core_messages s core trace steps) (length steps) a.stats.issued retired_by_end first_at second_at full may 0 none);
      issues = λ k l b. absurd (omega arith);
      at = tt;
    })

-- an entry is Plain, or it is none
plain_here : (o : Option Entry) → (o ≡ None → ⊥) → is_memory_in o ≡ false → o ≡ Some Plain
plain_here None n h = absurd (n refl)
plain_here (Some Plain) n h = refl
plain_here (Some (Read address)) n h = cc
plain_here (Some (Write address)) n h = cc

here : (trace : List Entry) (k : ℕ) → k < length trace → slice_get trace k ≡ None → ⊥
here [] k l h = absurd (omega arith)
here (x ∷ xs) zero l h = cc
here (x ∷ xs) (suc k) l h = here xs k (omega arith) h

-- somewhere the next memory entry stands, or the trace ends
next_from : (trace : List Entry) (left from : ℕ) → from + left ≡ length trace → (n : ℕ) × IsNextOrEnd trace from n
next_from trace zero from e =
    (from, record { is_from = omega arith; is_within = omega arith; is_plain_before = λ k l b. absurd (omega arith); is_read_or_write = λ l. absurd (omega arith) })
next_from trace (suc left) from e = by (is_memory_in (slice_get trace from)) refl (next_from trace left (from + 1) (omega arith))
  where
    by : (b : Bool) → is_memory_in (slice_get trace from) ≡ b → (n : ℕ) × IsNextOrEnd trace (from + 1) n → (n : ℕ) × IsNextOrEnd trace from n
    by true is later =
        (from, record { is_from = omega arith; is_within = omega arith; is_plain_before = λ k l b. absurd (omega arith); is_read_or_write = λ l. is })
    by false is later = (
      later.0,
      record {
        is_from = omega (arith, later.1.is_from);
        is_within = later.1.is_within;
        is_plain_before = λ k l b. ⊎_elim
            (λ less. later.1.is_plain_before k (omega arith) b)
            (λ most. let at : from ≡ k = omega arith in
            subst (λ j. slice_get trace j ≡ Some Plain) at (plain_here (slice_get trace from) (here trace from (omega arith)) is))
            (cases_lt from k);
        is_read_or_write = later.1.is_read_or_write;
      },
    )

-- the next two memory entries, wherever they stand
record Seen (trace : List Entry) (from : ℕ) : Type 0 where
  first_at : ℕ
  second_at : ℕ
  entry : Entry
  seen : IsSeen trace from first_at second_at entry

some_entry : (o : Option Entry) → (e : Entry) × ((o ≡ None → ⊥) → o ≡ Some e)
some_entry None = (Plain, λ n. absurd (n refl))
some_entry (Some e) = (e, λ n. refl)

seen_from : (trace : List Entry) (from : ℕ) → from ≤ length trace → Seen trace from
seen_from trace from l =
    let first = next_from trace (length trace - from) from (omega arith) in
    let entry = some_entry (slice_get trace first.0) in
    ⊎_elim
    (λ inside. let second = next_from trace (length trace - (first.0 + 1)) (first.0 + 1) (omega arith) in
    record {
      first_at = first.0;
      second_at = second.0;
      entry = entry.0;
      seen = record {
        ahead = record { first = first.1; second = λ m. second.1; none = λ m. absurd (omega arith) };
        is_at = λ m. entry.1 (here trace first.0 m);
      };
    })
    (λ end. record {
      first_at = first.0;
      second_at = length trace;
      entry = entry.0;
      seen = record {
        ahead = record { first = first.1; second = λ m. absurd (omega arith); none = λ m. refl };
        is_at = λ m. absurd (omega arith);
      };
    })
    (cases_lt first.0 (length trace))

-- a stalled core does nothing
pub stalled-rests : (s : Config) (core : ℕ) (trace : List Entry) (steps : List CoreStep) (mail : List Message) (a : CoreView) → a.stats.issued ≤ length a.trace
    → first_undone a.stats.issued a.outstanding ≤ a.stats.retired → a.config.window ≤ a.stats.issued - a.stats.retired → StandsFor s core trace steps mail a
    → NeverActs s core trace steps mail
stalled-rests s core trace steps mail a within undone most h =
    let x = seen_from a.trace a.stats.issued within in
    at_rest s core trace steps mail a idle_step (stalled_cause a x.second_at) None refl (stalled-does a x.first_at x.second_at x.entry x.seen undone most) h

-- so it does nothing, and stops where no entry is left, or its window is full
pub stalled-idles : (a : CoreView) → a.stats.issued ≤ length a.trace → first_undone a.stats.issued a.outstanding ≤ a.stats.retired → a.stats.issued - a.stats.retired ≡ a.config.window
    → Does a idle_step (cond (eqb a.stats.issued (length a.trace)) End Window) None
stalled-idles a within undone full =
    let x = seen_from a.trace a.stats.issued within in
    subst (λ why. Does a idle_step why None) (stalled_cause-full a x.second_at (omega (arith, a.config.core_in_range.width_in)) full)
    (stalled-does a x.first_at x.second_at x.entry x.seen undone (omega arith))

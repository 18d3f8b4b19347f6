-- Where a core stops issuing.
use Rattle.std.proofs.Common.{subst, ◌⊎◌, inl, inr, ◌≡◌, ℕ, zero, suc, ◌+◌, ◌-◌, ◌<◌, ◌≤◌, min, Bool, true, false, ◌&&◌, List, length, Option, Some, None, refl, sym, ap, ap₂, ◌∙◌, eqb, cond, arith, ⊎_elim}
use Rattle.std.specs.Prelude.{slice_get, find, is_some, unwrap_or}
use Rattle.std.specs.List.{range_with_len}
use Rattle.std.proofs.lemmas.Bool.{false≢true, lt-ltb, cases_lt, ne_eqb, eq-eqb, eqb-false, and_right}
use Rattle.sim_base.specs.declared.config.Config.{Config}
use Rattle.sim_base.specs.declared.message.Message.{Message}
use Rattle.sim_base.specs.declared.trace.Entry.{Entry}
use Rattle.sim_base.specs.declared.trace.Stop.{Stop}
use Rattle.sim_base.specs.declared.trace.Stop.TheVariants as stop
use Rattle.sim_base.specs.History.{below}
use Rattle.sim_base.specs.Windows.{is_memory_in, has_memory, meets_memory, lacks_credit, stop_after, has_cause, first_stop}
use Rattle.cpu_trace.specs.NextMemory.{IsPlainBetween}
use Rattle.core_window.specs.Causes.{issue_count, cause_at}
use Rattle.core_window.specs.OneCycle.{IsAhead, MayIssue, IsLast}
use Rattle.core_window.proofs.Segments.{has_memory-false, has_memory-true}

find_from : (p : ℕ → Bool) (a n m : ℕ) → m < n → ((k : ℕ) → k < m → p (a + k) ≡ false) → p (a + m) ≡ true → find p (range_with_len a n) ≡ Some (a + m)
find_from p a zero m l before here = absurd (omega arith)
find_from p a (suc n) zero l before here =
    let e : a + 0 ≡ a = omega arith in
    ap (λ b. cond b (Some a) (find p (range_with_len (a + 1) n))) (ap p (sym e) ∙ here) ∙ ap Some (sym e)
find_from p a (suc n) (suc m) l before here =
    let e0 : a + 0 ≡ a = omega arith in
    let e1 : a + 1 + m ≡ a + suc m = omega arith in
    ap (λ b. cond b (Some a) (find p (range_with_len (a + 1) n))) (ap p (sym e0) ∙ before 0 (omega arith))
    ∙ find_from p (a + 1) n m (omega arith) (λ k j. let e : a + 1 + k ≡ a + suc k = omega arith in ap p e ∙ before (suc k) (omega arith)) (ap p e1 ∙ here)
    ∙ ap Some e1

pub find_below : (p : ℕ → Bool) (n m : ℕ) → m < n → ((k : ℕ) → k < m → p k ≡ false) → p m ≡ true → find p (below n) ≡ Some m
find_below p n m l before here =
    let z : (k : ℕ) → 0 + k ≡ k = λ k. omega arith in
    find_from p 0 n m l (λ k j. ap p (z k) ∙ before k j) (ap p (z m) ∙ here) ∙ ap Some (z m)

plain-no_memory : (trace : List Entry) (k : ℕ) (from to : ℕ) → IsPlainBetween trace from to → from ≤ k → k < to → is_memory_in (slice_get trace k) ≡ false
plain-no_memory trace k from to h l b = ap is_memory_in (h k l b)

plain-no_lack : (s : Config) (core : ℕ) (trace : List Entry) (inbox sent : List Message) (now k from to : ℕ) → IsPlainBetween trace from to → from ≤ k → k < to
    → lacks_credit s core inbox sent now (slice_get trace k) ≡ false
unfolding lacks_credit
plain-no_lack s core trace inbox sent now k from to h l b = ap (lacks_credit s core inbox sent now) (h k l b)

meets-false : (trace : List Entry) (number first_at second_at k : ℕ) → IsAhead trace number first_at second_at → number + k < second_at → meets_memory trace number k ≡ false
unfolding meets_memory
meets-false trace number first_at second_at k ahead l =
    ⊎_elim
    (λ before. ap (λ b. b && has_memory trace number k) (plain-no_memory trace (number + k) number first_at ahead.first.is_plain_before (omega arith) before))
    (λ after. ⊎_elim
    (λ beyond. ⊎_elim
    (λ inside. ap (λ b. b && has_memory trace number k) (plain-no_memory trace (number + k) (first_at + 1) second_at (ahead.second inside).is_plain_before (omega arith) l))
    (λ none. let e = ahead.none none in absurd (omega (arith, ahead.first.is_within)))
    (cases_lt first_at (length trace)))
    (λ at. and_right (is_memory_in (slice_get trace (number + k))) (has_memory trace number k)
    (has_memory-false trace number k (λ j b. plain-no_memory trace (number + j) number first_at ahead.first.is_plain_before (omega arith) (omega arith))))
    (cases_lt first_at (number + k)))
    (cases_lt (number + k) first_at)

-- how far a core issues
record Reaches (s : Config) (trace : List Entry) (number retired_by_end first_at second_at m : ℕ) (lacks : Bool) : Type 0 where
  width : m ≤ s.width
  window : number + m ≤ retired_by_end + s.window
  second : number + m ≤ second_at
  first : lacks ≡ true → number + m ≤ first_at

lacks_at : (s : Config) (core : ℕ) (trace : List Entry) (inbox sent : List Message) (now number retired_by_end first_at second_at : ℕ) (lacks : Bool)
    → MayIssue s core trace inbox sent now number retired_by_end first_at second_at lacks → (k : ℕ) → number + k < second_at → (lacks ≡ true → number + k < first_at)
    → lacks_credit s core inbox sent now (slice_get trace (number + k)) ≡ false
lacks_at s core trace inbox sent now number retired_by_end first_at second_at lacks h k l b =
    let w = h.ahead.first.is_within in
    ⊎_elim
    (λ before. plain-no_lack s core trace inbox sent now (number + k) number first_at h.ahead.first.is_plain_before (omega arith) before)
    (λ after. ⊎_elim
    (λ inside. ⊎_elim
    (λ beyond. plain-no_lack s core trace inbox sent now (number + k) (first_at + 1) second_at (h.ahead.second inside).is_plain_before (omega arith) l)
    (λ at. let e : number + k ≡ first_at = omega arith in
    ap (λ n. lacks_credit s core inbox sent now (slice_get trace n)) e
    ∙ sym (ap (λ t. t && lacks_credit s core inbox sent now (slice_get trace first_at)) (lt-ltb first_at (length trace) inside))
    ∙ sym h.credit
    ∙ not_lacking lacks (λ t. let j = b t in omega arith))
    (cases_lt first_at (number + k)))
    (λ none. let e = h.ahead.none none in absurd (omega arith))
    (cases_lt first_at (length trace)))
    (cases_lt (number + k) first_at)
  where
    not_lacking : (v : Bool) → (v ≡ true → ⊥) → v ≡ false
    not_lacking true f = absurd (f refl)
    not_lacking false f = refl

two_within : (s : Config) (core : ℕ) (trace : List Entry) (inbox sent : List Message) (now number retired_by_end first_at second_at : ℕ) (lacks : Bool)
    → MayIssue s core trace inbox sent now number retired_by_end first_at second_at lacks → second_at ≤ length trace
two_within s core trace inbox sent now number retired_by_end first_at second_at lacks h =
    ⊎_elim (λ inside. (h.ahead.second inside).is_within) (λ none. let e = h.ahead.none none in omega arith) (cases_lt first_at (length trace))

no_stop : (s : Config) (core : ℕ) (trace : List Entry) (inbox sent : List Message) (now number retired_by_end first_at second_at : ℕ) (lacks : Bool)
    → MayIssue s core trace inbox sent now number retired_by_end first_at second_at lacks → (k : ℕ) → k < s.width → number + k < retired_by_end + s.window → number + k < second_at → (lacks ≡ true → number + k < first_at)
    → stop_after s core trace inbox sent now number retired_by_end k ≡ None
unfolding stop_after
no_stop s core trace inbox sent now number retired_by_end first_at second_at lacks h k width window second first =
    let end : second_at ≤ length trace = two_within s core trace inbox sent now number retired_by_end first_at second_at lacks h in
    let e1 : eqb (number + k) (length trace) ≡ false = ne_eqb _ _ (λ e. omega arith) in
    let e2 : eqb k s.width ≡ false = ne_eqb _ _ (λ e. omega arith) in
    let e3 : eqb (number + k - retired_by_end) s.window ≡ false = ne_eqb _ _ (λ e. omega (arith, h.retired)) in
    let e4 : meets_memory trace number k ≡ false = meets-false trace number first_at second_at k h.ahead second in
    let e5 : lacks_credit s core inbox sent now (slice_get trace (number + k)) ≡ false = lacks_at s core trace inbox sent now number retired_by_end first_at second_at lacks h k second first in
    rw (e1, e2, e3, e4, e5) refl

-- the number of entries that issue
issue_count-reaches : (s : Config) (trace : List Entry) (number retired_by_end first_at second_at : ℕ) (lacks : Bool) → number ≤ retired_by_end + s.window → retired_by_end ≤ number → number ≤ first_at → number ≤ second_at
    → Reaches s trace number retired_by_end first_at second_at (issue_count s.width s.window number retired_by_end first_at second_at lacks) lacks
issue_count-reaches s trace number retired_by_end first_at second_at true window retired l1 l2 = record { width = omega arith; window = omega arith; second = omega arith; first = λ e. omega arith }
issue_count-reaches s trace number retired_by_end first_at second_at false window retired l1 l2 = record { width = omega arith; window = omega arith; second = omega arith; first = λ e. absurd (false≢true e) }

-- one of the limits on the entries that issue is met
abbrev Met : Config → ℕ → ℕ → ℕ → ℕ → ℕ → Bool → Type 0
Met s number retired_by_end first_at second_at m lacks = (m ≡ s.width) ⊎ ((number + m ≡ retired_by_end + s.window) ⊎ ((number + m ≡ second_at) ⊎ ((lacks ≡ true) × (number + m ≡ first_at))))

least_of : (a b c d : ℕ) → (min (min (min a b) c) d ≡ a) ⊎ ((min (min (min a b) c) d ≡ b) ⊎ ((min (min (min a b) c) d ≡ c) ⊎ (min (min (min a b) c) d ≡ d)))
least_of a b c d = grind arith

least_of_three : (a b c : ℕ) → (min (min a b) c ≡ a) ⊎ ((min (min a b) c ≡ b) ⊎ (min (min a b) c ≡ c))
least_of_three a b c = grind arith

issue_count-met : (s : Config) (number retired_by_end first_at second_at : ℕ) (lacks : Bool) → number ≤ retired_by_end + s.window → retired_by_end ≤ number → number ≤ first_at → number ≤ second_at
    → Met s number retired_by_end first_at second_at (issue_count s.width s.window number retired_by_end first_at second_at lacks) lacks
issue_count-met s number retired_by_end first_at second_at true window retired l1 l2 =
    elim (least_of s.width (s.window - (number - retired_by_end)) (second_at - number) (first_at - number)) [
      | inl e ↦ inl e
      | inr r ↦ elim r [
        | inl e ↦ inr (inl (omega arith))
        | inr q ↦ elim q [
          | inl e ↦ inr (inr (inl (omega arith)))
          | inr e ↦ inr (inr (inr (refl, omega arith)))
        ]
      ]
    ]
issue_count-met s number retired_by_end first_at second_at false window retired l1 l2 =
    elim (least_of_three s.width (s.window - (number - retired_by_end)) (second_at - number)) [
      | inl e ↦ inl e
      | inr r ↦ elim r [
        | inl e ↦ inr (inl (omega arith))
        | inr e ↦ inr (inr (inl (omega arith)))
      ]
    ]

meets-true : (trace : List Entry) (number first_at second_at k : ℕ) → IsAhead trace number first_at second_at → number + k ≡ second_at → second_at < length trace → meets_memory trace number k ≡ true
unfolding meets_memory
meets-true trace number first_at second_at k ahead e l =
    ⊎_elim
    (λ inside. let second = ahead.second inside in
    let j : number + (first_at - number) ≡ first_at = omega (arith, ahead.first.is_from) in
    ap₂ (λ a b. a && b) (ap (λ n. is_memory_in (slice_get trace n)) e ∙ second.is_read_or_write l)
    (has_memory-true trace number k (first_at - number) (omega (arith, ahead.first.is_from, second.is_from)) (ap (λ n. is_memory_in (slice_get trace n)) j ∙ ahead.first.is_read_or_write inside)))
    (λ none. let e2 = ahead.none none in absurd (omega arith))
    (cases_lt first_at (length trace))

-- where neither the trace, the width nor the window ends it
last_cause : (s : Config) (core : ℕ) (trace : List Entry) (inbox sent : List Message) (now number retired_by_end first_at second_at : ℕ) (lacks : Bool)
    → MayIssue s core trace inbox sent now number retired_by_end first_at second_at lacks → (m : ℕ) → Reaches s trace number retired_by_end first_at second_at m lacks → Met s number retired_by_end first_at second_at m lacks
    → (number + m ≡ length trace → ⊥) → (m ≡ s.width → ⊥) → (number + m - retired_by_end ≡ s.window → ⊥)
    → cond (meets_memory trace number m) (Some stop.Memory) (cond (lacks_credit s core inbox sent now (slice_get trace (number + m))) (Some stop.Credit) None)
    ≡ Some (cond (eqb (number + m) second_at) stop.Memory stop.Credit)
last_cause s core trace inbox sent now number retired_by_end first_at second_at lacks h m reach met e1 e2 e3 =
    let end : second_at ≤ length trace = two_within s core trace inbox sent now number retired_by_end first_at second_at lacks h in
    elim met [
      | inl e ↦ absurd (e2 e)
      | inr r ↦ elim r [
        | inl e ↦ absurd (e3 (omega (arith, h.retired)))
        | inr q ↦ ⊎_elim
            (λ less. elim q [
              | inl e ↦ absurd (omega arith)
              | inr l ↦
                  let at_one : number + m ≡ first_at = l.1 in
                  let a : meets_memory trace number m ≡ false = meets-false trace number first_at second_at m h.ahead less in
                  let b : eqb (number + m) second_at ≡ false = ne_eqb _ _ (λ e. omega arith) in
                  let inside : first_at < length trace = omega arith in
                  let d : lacks_credit s core inbox sent now (slice_get trace (number + m)) ≡ true =
                  ap (λ n. lacks_credit s core inbox sent now (slice_get trace n)) at_one
                  ∙ sym (ap (λ t. t && lacks_credit s core inbox sent now (slice_get trace first_at)) (lt-ltb first_at (length trace) inside))
                  ∙ sym h.credit ∙ l.0 in
                  rw (a, b, d) refl
            ])
            (λ most. let e : number + m ≡ second_at = omega (arith, reach.second) in
            let a : meets_memory trace number m ≡ true = meets-true trace number first_at second_at m h.ahead e (two_inside e) in
            let b : eqb (number + m) second_at ≡ true = eq-eqb _ _ e in
            rw (a, b) refl)
            (cases_lt (number + m) second_at)
      ]
    ]
  where
    two_inside : number + m ≡ second_at → second_at < length trace
    two_inside e =
        let end : second_at ≤ length trace = two_within s core trace inbox sent now number retired_by_end first_at second_at lacks h in
        ⊎_elim (λ l. l) (λ g. absurd (e1 (omega arith))) (cases_lt second_at (length trace))

stop_here : (s : Config) (core : ℕ) (trace : List Entry) (inbox sent : List Message) (now number retired_by_end first_at second_at : ℕ) (lacks : Bool)
    → MayIssue s core trace inbox sent now number retired_by_end first_at second_at lacks → (m : ℕ) → Reaches s trace number retired_by_end first_at second_at m lacks → Met s number retired_by_end first_at second_at m lacks
    → stop_after s core trace inbox sent now number retired_by_end m ≡ Some (cause_at s.width s.window (length trace) number retired_by_end second_at m)
unfolding stop_after
stop_here s core trace inbox sent now number retired_by_end first_at second_at lacks h m reach met =
    by (eqb (number + m) (length trace)) (eqb m s.width) (eqb (number + m - retired_by_end) s.window) refl refl refl
  where
    rest : Option Stop
    rest = cond (meets_memory trace number m) (Some stop.Memory) (cond (lacks_credit s core inbox sent now (slice_get trace (number + m))) (Some stop.Credit) None)

    by : (a b d : Bool) → eqb (number + m) (length trace) ≡ a → eqb m s.width ≡ b → eqb (number + m - retired_by_end) s.window ≡ d
        → cond a (Some stop.End) (cond b (Some stop.Width) (cond d (Some stop.Window) rest))
        ≡ Some (cond a stop.End (cond b stop.Width (cond d stop.Window (cond (eqb (number + m) second_at) stop.Memory stop.Credit))))
    by true b d e1 e2 e3 = refl
    by false true d e1 e2 e3 = refl
    by false false true e1 e2 e3 = refl
    by false false false e1 e2 e3 =
        last_cause s core trace inbox sent now number retired_by_end first_at second_at lacks h m reach met (eqb-false _ _ e1) (eqb-false _ _ e2) (eqb-false _ _ e3)

-- the number of entries that issue is the least at which there is a cause, and this is the cause
pub is_last : (s : Config) (core : ℕ) (trace : List Entry) (inbox sent : List Message) (now number retired_by_end first_at second_at : ℕ) (lacks : Bool)
    → MayIssue s core trace inbox sent now number retired_by_end first_at second_at lacks → (m : ℕ) → m ≡ issue_count s.width s.window number retired_by_end first_at second_at lacks
    → IsLast s core trace inbox sent now number retired_by_end first_at second_at lacks m (cause_at s.width s.window (length trace) number retired_by_end second_at m)
unfolding first_stop has_cause
is_last s core trace inbox sent now number retired_by_end first_at second_at lacks h m e =
    let l1 : number ≤ first_at = h.ahead.first.is_from in
    let l2 : number ≤ second_at = two_from in
    let reach : Reaches s trace number retired_by_end first_at second_at m lacks = subst (λ n. Reaches s trace number retired_by_end first_at second_at n lacks) (sym e) (issue_count-reaches s trace number retired_by_end first_at second_at lacks h.window h.retired l1 l2) in
    let met : Met s number retired_by_end first_at second_at m lacks = subst (λ n. Met s number retired_by_end first_at second_at n lacks) (sym e) (issue_count-met s number retired_by_end first_at second_at lacks h.window h.retired l1 l2) in
    let here : stop_after s core trace inbox sent now number retired_by_end m ≡ Some (cause_at s.width s.window (length trace) number retired_by_end second_at m) = stop_here s core trace inbox sent now number retired_by_end first_at second_at lacks h m reach met in
    record {
      count = ap (λ o. unwrap_or o s.width)
          (find_below (has_cause s core trace inbox sent now number retired_by_end) (s.width + 1) m (omega (arith, reach.width))
          (λ k l. ap is_some (no_stop s core trace inbox sent now number retired_by_end first_at second_at lacks h k (omega (arith, reach.width)) (omega (arith, reach.window)) (omega (arith, reach.second)) (λ t. omega (arith, reach.first t))))
          (ap is_some here));
      cause = here;
      window = reach.window;
      second = reach.second;
      first = reach.first;
    }
  where
    two_from : number ≤ second_at
    two_from = ⊎_elim (λ inside. omega (arith, h.ahead.first.is_from, (h.ahead.second inside).is_from)) (λ none. let e2 = h.ahead.none none in omega (arith, h.within)) (cases_lt first_at (length trace))

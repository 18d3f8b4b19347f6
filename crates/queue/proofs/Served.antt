-- The marks, the tags and the blocked requests of a log, once a request is served.
use Rattle.std.proofs.Common.{◌≡◌, ℕ, zero, suc, ◌+◌, ◌-◌, ◌<◌, Bool, true, false, not, ◌&&◌, ◌||◌, List, [], ◌∷◌, ◌++◌, length, take, drop, get_or, set, refl, sym, ap, subst, ◌∙◌, inl, inr, arith}
use Rattle.std.proofs.lemmas.Bool.{cases_Bool, and_parts, false≢true}
use Rattle.std.proofs.lemmas.List.{length-take-le, length-drop, get_or_at, get_or-take, get_or-drop, set_at, set-append_right}
use Rattle.std.proofs.Math.Bool.{or-false, or_assoc, or_comm, or_self, and-false}
use Rattle.sim_base.specs.Places.{is_line}
use Rattle.sim_base.specs.Scheduling.{asks_for_line}
use Rattle.sim_base.specs.declared.place.Place.{Place}
use Rattle.queue.specs.declared.request_log.Arrived.{Arrived}
use Rattle.queue.specs.Marks.{is_marked}
use Rattle.sim_base.specs.Counts.{one_if}
use Rattle.queue.specs.Log.{absent, waiting, waiting_requests, eligible_column, is_for, served_at, waits_at}
use Rattle.queue.proofs.SameLine.{line_same, line_apart, line_itself}
use Rattle.queue.proofs.Waiting.{asks_first, asks_some}
use Rattle.queue.proofs.Eligible.{asked_with, marks_after, eligible_is, length-marks, split_marks}
use Rattle.queue.proofs.Places.{around, left_off, served_around}

or_swap : (a b c : Bool) → ((a || b) || c) ≡ ((a || c) || b)
or_swap a b c = or_assoc a b c ∙ ap (λ t. a || t) (or_comm b c) ∙ sym (or_assoc a c b)

-- the lines asked for with one more
abbrev with_line : (Place → Bool) → Place → Place → Bool
with_line asked p q = asked q || is_line p q

-- where the line of a request that goes was asked for before, no other becomes eligible
kept_asked : (asked : Place → Bool) (p q : Place) → asked p ≡ true → with_line asked p q ≡ asked q
kept_asked asked p q before = elim (cases_Bool (is_line p q)) [
  | inl same ↦ let there : asked q ≡ true = subst (λ x. asked x ≡ true) (line_same p q same) before in ap (λ b. b || is_line p q) there ∙ sym there
  | inr apart ↦ ap (λ b. asked q || b) apart ∙ or-false (asked q)
]

unblocked_here : (asked : Place → Bool) (p : Place) (b : Arrived) (log : List Arrived) → asked p ≡ false → is_for p b ≡ true
    → 1 ∷ marks_after (asked_with (with_line asked p) b) log ≡ marks_after asked (b ∷ log)
unblocked_here asked p b log before here =
    let parts = and_parts b.waits (is_line b.request.place p) here in
    let place_is : b.request.place ≡ p = line_same b.request.place p parts.1 in
    let head : 1 ≡ one_if (b.waits && not (asked b.request.place)) = λ i. one_if (sym parts.0 i && not ((sym before ∙ ap asked (sym place_is)) i)) in
    let rest : (q : Place) → asked_with (with_line asked p) b q ≡ asked_with asked b q =
    λ q.
    (λ i. (asked q || is_line (sym place_is i) q) || (parts.0 i && is_line b.request.place q))
    ∙ or_assoc (asked q) (is_line b.request.place q) (is_line b.request.place q)
    ∙ ap (λ t. asked q || t) (or_self (is_line b.request.place q))
    ∙ ap (λ w. asked q || (w && is_line b.request.place q)) (sym parts.0) in
    λ i. head i ∷ marks_after (λ q. rest q i) log

unblocked_head : (asked : Place → Bool) (p : Place) (b : Arrived) → is_for p b ≡ false → one_if (b.waits && not (with_line asked p b.request.place)) ≡ one_if (b.waits && not (asked b.request.place))
unblocked_head asked p b apart = elim (cases_Bool b.waits) [
  | inl does ↦
      let other : is_line b.request.place p ≡ false = ap (λ w. w && is_line b.request.place p) (sym does) ∙ apart in
      ap (λ t. one_if (b.waits && not (asked b.request.place || t))) (line_apart b.request.place p other) ∙ ap (λ t. one_if (b.waits && not t)) (or-false (asked b.request.place))
  | inr none ↦ ap (λ w. one_if (w && not (with_line asked p b.request.place))) none ∙ ap (λ w. one_if (w && not (asked b.request.place))) (sym none)
]

-- Where the line of a request that goes was not asked for before, the next one for it becomes eligible. It stands at
-- place k; past the end there is none.
unblocked : (asked : Place → Bool) (p : Place) (log : List Arrived) (k : ℕ) → asked p ≡ false → ((j : ℕ) → j < k → is_for p (get_or log j absent) ≡ false)
    → (k < length log → is_for p (get_or log k absent) ≡ true) → set (marks_after (with_line asked p) log) k 1 ≡ marks_after asked log
unblocked asked p [] k before none here = refl
unblocked asked p (b ∷ log) zero before none here = unblocked_here asked p b log before (here (omega arith))
unblocked asked p (b ∷ log) (suc k) before none here =
    let apart : is_for p b ≡ false = none 0 (omega arith) in
    let later : asked_with asked b p ≡ false = ap (λ t. t || is_for p b) before ∙ apart in
    let swapped : (q : Place) → asked_with (with_line asked p) b q ≡ with_line (asked_with asked b) p q =
    λ q. or_swap (asked q) (is_line p q) (b.waits && is_line b.request.place q) in
    (λ i. unblocked_head asked p b apart i ∷ set (marks_after (λ q. swapped q i) log) k 1)
    ∙ ap (λ ms. one_if (b.waits && not (asked b.request.place)) ∷ ms)
    (unblocked (asked_with asked b) p log k later (λ j below. none (suc j) (omega (arith, below))) (λ within. here (omega (arith, within))))

-- the marks of a log round a place whose request is served
served_marks : (older later : List Arrived) (a : Arrived)
    → eligible_column (older ++ left_off a ∷ later) ≡ marks_after (λ p. false) older ++ 0 ∷ marks_after (λ p. asks_for_line p (waiting_requests older)) later
served_marks older later a =
    split_marks older later (left_off a)
    ∙ ap (λ (f : Place → Bool). marks_after (λ p. false) older ++ 0 ∷ marks_after f later) (λ i p. or-false (asks_for_line p (waiting_requests older)) i)

-- the marks of a log without that at a place whose request waits
cleared_marks : (older later : List Arrived) (a : Arrived) (place : ℕ) → length older ≡ place → a.waits ≡ true
    → set (eligible_column (older ++ a ∷ later)) place 0
    ≡ marks_after (λ p. false) older ++ 0 ∷ marks_after (with_line (λ p. asks_for_line p (waiting_requests older)) a.request.place) later
cleared_marks older later a place long waits =
    let word = one_if (a.waits && not (asks_for_line a.request.place (waiting_requests older))) in
    let front = marks_after (λ p. false) older in
    let rest = marks_after (λ p. asks_for_line p (waiting_requests older) || (a.waits && is_line a.request.place p)) later in
    ap (λ ms. set ms place 0) (split_marks older later a)
    ∙ set_at front word rest 0 place (length-marks (λ p. false) older ∙ long)
    ∙ (λ i. front ++ 0 ∷ marks_after (λ p. asks_for_line p (waiting_requests older) || (waits i && is_line a.request.place p)) later)

pub marked_mark : (b : Bool) → is_marked (one_if b) ≡ b
marked_mark true = refl
marked_mark false = refl

marked_there : (older later : List Arrived) (a : Arrived) (place : ℕ) → length older ≡ place
    → is_marked (get_or (eligible_column (older ++ a ∷ later)) place 0) ≡ (a.waits && not (asks_for_line a.request.place (waiting_requests older)))
marked_there older later a place long =
    let word = one_if (a.waits && not (asks_for_line a.request.place (waiting_requests older))) in
    let rest = marks_after (λ p. asks_for_line p (waiting_requests older) || (a.waits && is_line a.request.place p)) later in
    ap (λ ms. is_marked (get_or ms place 0)) (split_marks older later a)
    ∙ ap is_marked (get_or_at (marks_after (λ p. false) older) word rest 0 place (length-marks (λ p. false) older ∙ long))
    ∙ marked_mark (a.waits && not (asks_for_line a.request.place (waiting_requests older)))

-- a request is marked where it waits and no older one waits for its line
marked_at : (log : List Arrived) (k : ℕ) → k < length log
    → is_marked (get_or (eligible_column log) k 0) ≡ (waits_at log k && not (asks_for_line (get_or log k absent).request.place (waiting_requests (take k log))))
marked_at log k within =
    ap (λ (l : List Arrived). is_marked (get_or (eligible_column l) k 0)) (around log k absent within)
    ∙ marked_there (take k log) (drop (k + 1) log) (get_or log k absent) k (length-take-le k log (omega (arith, within)))

turned : (b c : Bool) → not b ≡ c → b ≡ not c
turned true c is = ap not is
turned false c is = ap not is

-- whether the line of a request that waits was asked for before
asked_before : (log : List Arrived) (place : ℕ) (marked : Bool) → place < length log → waits_at log place ≡ true → is_marked (get_or (eligible_column log) place 0) ≡ marked
    → asks_for_line (get_or log place absent).request.place (waiting_requests (take place log)) ≡ not marked
asked_before log place marked within waits is =
    let asked = asks_for_line (get_or log place absent).request.place (waiting_requests (take place log)) in
    turned asked marked (ap (λ w. w && not asked) (sym waits) ∙ sym (marked_at log place within) ∙ is)

-- the marks once a request is served that an older one of its line blocked: none but its own changes
pub served_blocked : (log : List Arrived) (place : ℕ) → place < length log → waits_at log place ≡ true → is_marked (get_or (eligible_column log) place 0) ≡ false
    → eligible_column (served_at log place) ≡ set (eligible_column log) place 0
served_blocked log place within waits blocked =
    let older = take place log in
    let later = drop (place + 1) log in
    let a = get_or log place absent in
    let asks = λ (p : Place). asks_for_line p (waiting_requests older) in
    let long : length older ≡ place = length-take-le place log (omega (arith, within)) in
    let whole = around log place absent within in
    let asked : asks a.request.place ≡ true = asked_before log place false within waits blocked in
    ap eligible_column (served_around log place within)
    ∙ served_marks older later a
    ∙ ap (λ (f : Place → Bool). marks_after (λ p. false) older ++ 0 ∷ marks_after f later) (λ i q. sym (kept_asked asks a.request.place q asked) i)
    ∙ sym (cleared_marks older later a place long waits)
    ∙ ap (λ (l : List Arrived). set (eligible_column l) place 0) (sym whole)

-- the marks once a request is served that was first of its line: the next one for the line, at place k, is no longer
-- blocked
pub served_first : (log : List Arrived) (place k : ℕ) → place < length log → waits_at log place ≡ true → is_marked (get_or (eligible_column log) place 0) ≡ true → place < k
    → ((j : ℕ) → place < j → j < k → is_for (get_or log place absent).request.place (get_or log j absent) ≡ false)
    → (k < length log → is_for (get_or log place absent).request.place (get_or log k absent) ≡ true)
    → eligible_column (served_at log place) ≡ set (set (eligible_column log) place 0) k 1
served_first log place k within waits first behind none here =
    let older = take place log in
    let later = drop (place + 1) log in
    let a = get_or log place absent in
    let p = a.request.place in
    let j = k - (place + 1) in
    let asks = λ (p : Place). asks_for_line p (waiting_requests older) in
    let front = marks_after (λ p. false) older in
    let rest = marks_after (with_line asks p) later in
    let long : length older ≡ place = length-take-le place log (omega (arith, within)) in
    let whole = around log place absent within in
    let fresh : asks p ≡ false = asked_before log place true within waits first in
    let there : (i : ℕ) → get_or later i absent ≡ get_or log (place + 1 + i) absent = λ i. get_or-drop (place + 1) log i absent in
    let spot : place + 1 + j ≡ k = omega (arith, behind) in
    let after : k - place ≡ suc j = omega (arith, behind) in
    ap eligible_column (served_around log place within)
    ∙ served_marks older later a
    ∙ ap (λ ms. front ++ 0 ∷ ms)
    (sym
    (unblocked asks p later j fresh
    (λ i below. ap (is_for p) (there i) ∙ none (place + 1 + i) (omega arith) (omega (arith, below)))
    (λ below. ap (is_for p) (there j ∙ ap (λ n. get_or log n absent) spot) ∙ here (omega (arith, below, length-drop (place + 1) log, spot)))))
    ∙ ap (λ n. front ++ set (0 ∷ rest) n 1) (sym after)
    ∙ sym (set-append_right front (0 ∷ rest) place k 1 (length-marks (λ p. false) older ∙ long) (omega (arith, behind)))
    ∙ ap (λ ms. set ms k 1) (sym (cleared_marks older later a place long waits) ∙ ap (λ (l : List Arrived). set (eligible_column l) place 0) (sym whole))

-- a request behind one that waits for its line is not marked
pub blocked_behind : (log : List Arrived) (place k : ℕ) → place < k → k < length log → waits_at log place ≡ true
    → is_for (get_or log place absent).request.place (get_or log k absent) ≡ true → is_marked (get_or (eligible_column log) k 0) ≡ false
blocked_behind log place k behind within waits here =
    let a = get_or log place absent in
    let b = get_or log k absent in
    let parts = and_parts b.waits (is_line b.request.place a.request.place) here in
    let before : get_or (take k log) place absent ≡ a = get_or-take k log place absent behind in
    let older : is_for b.request.place (get_or (take k log) place absent) ≡ true =
    ap (is_for b.request.place) before
    ∙ (λ i. waits i && is_line a.request.place (line_same b.request.place a.request.place parts.1 i))
    ∙ line_itself a.request.place in
    let asked = asks_some b.request.place (take k log) place (omega (arith, behind, within, length-take-le k log (omega (arith, within)))) older in
    marked_at log k within ∙ ap (λ t. b.waits && not t) asked ∙ and-false b.waits

-- where none that waits for a line is marked, the line is not asked for
none_marked : (asked : Place → Bool) (p : Place) (log : List Arrived) → asked p ≡ false
    → ((k : ℕ) → k < length log → is_for p (get_or log k absent) ≡ true → is_marked (get_or (marks_after asked log) k 0) ≡ false) → asks_for_line p (waiting_requests log) ≡ false
unfolding asks_for_line waiting
none_marked asked p [] before none = refl
none_marked asked p (a ∷ log) before none = elim (cases_Bool (is_for p a)) [
  | inl here ↦
      let parts = and_parts a.waits (is_line a.request.place p) here in
      let fresh : asked a.request.place ≡ false = ap asked (line_same a.request.place p parts.1) ∙ before in
      let marked : is_marked (one_if (a.waits && not (asked a.request.place))) ≡ true = λ i. is_marked (one_if (parts.0 i && not (fresh i))) in
      absurd (false≢true (sym (none 0 (omega arith) here) ∙ marked))
  | inr apart ↦
      let later : asked_with asked a p ≡ false = ap (λ t. t || is_for p a) before ∙ apart in
      asks_first p a log
      ∙ ap (λ t. t || asks_for_line p (waiting_requests log)) apart
      ∙ none_marked (asked_with asked a) p log later (λ k within is. none (suc k) (omega (arith, within)) is)
]

pub none_asked : (p : Place) (log : List Arrived) → ((k : ℕ) → k < length log → is_for p (get_or log k absent) ≡ true → is_marked (get_or (eligible_column log) k 0) ≡ false)
    → asks_for_line p (waiting_requests log) ≡ false
none_asked p log none = none_marked (λ q. false) p log refl (λ k within here. ap (λ ms. is_marked (get_or ms k 0)) (sym (eligible_is log)) ∙ none k within here)

-- The first places in a log, once a request has been served.
use Rattle.std.proofs.Common.{◌≡◌, ℕ, zero, suc, ◌+◌, ◌<◌, ◌≤◌, min, Bool, true, false, cond, ◌&&◌, List, [], ◌∷◌, ◌++◌, length, get_or, set, take, drop, Option, Some, None, refl, sym, ap, ◌∙◌, ◌⊎◌, inl, inr, arith}
use Rattle.std.proofs.lemmas.Bool.{cases_Bool, cases_eq, and_parts, true≢false, false_from_ne_true}
use Rattle.std.proofs.lemmas.List.{get_or-map, get_or_default, get_or-set_same, get_or-set_other, length-set, length-map, length-take-le, take-set, take-append-drop, get_or_append_left}
use Rattle.std.proofs.lemmas.List.Quantifiers.{position-Some}
use Rattle.std.proofs.lemmas.Slice.Zip.{get_or-zip}
use Rattle.std.specs.List.{position, zip}
use Rattle.std.specs.Option.{option_map}
use Rattle.sim_base.specs.Scheduling.{asks_for_line}
use Rattle.sim_base.specs.declared.message.Request.{Request}
use Rattle.queue.specs.declared.request_log.Arrived.{Arrived}
use Rattle.queue.specs.Marks.{is_marked}
use Rattle.queue.specs.Log.{absent, all_requests, waiting_requests, eligible_column}
use Rattle.queue.proofs.Eligible.{marks_after, length-eligible, marked_waits}
use Rattle.queue.proofs.Places.{all_served, length-served}
use Rattle.queue.specs.Candidates.{passes, marked_requests, first_place}
use Rattle.queue.specs.Moves.{NonePassesBefore}
use Rattle.sim_base.specs.Earlier.{earlier}
use Rattle.queue.specs.Served.{passing, IsServed}
use Rattle.queue.proofs.MarkedRequests.{zip_long, eligible_append}
use Rattle.queue.proofs.Positions.{position-cons}
use Rattle.queue.proofs.Searches.{here_is, none_more, none_before_first}

-- of two places, one of which is not there or given twice
pub earlier_none : (a : Option ℕ) → earlier a None ≡ a
earlier_none None = refl
earlier_none (Some a) = refl

pub earlier_twice : (a b : Option ℕ) → earlier (earlier a b) b ≡ earlier a b
earlier_twice None None = refl
earlier_twice None (Some b) = let same : min b b ≡ b = omega arith in ap Some same
earlier_twice (Some a) None = refl
earlier_twice (Some a) (Some b) = let same : min (min a b) b ≡ min a b = omega arith in ap Some same

pub earlier_neither : (a b : Option ℕ) → earlier a b ≡ None → b ≡ None
earlier_neither None b none = none
earlier_neither (Some a) None none = refl
earlier_neither (Some a) (Some b) none = cc

-- an item that does not pass is put in the place of one that is not the first
head_fails : (b : Bool) (o : Option ℕ) → (cond b (Some 0) o ≡ Some 0 → ⊥) → b ≡ false
head_fails true o apart = absurd (apart refl)
head_fails false o apart = refl

position_fails : {X : Type 0} (p : X → Bool) (xs : List X) (k : ℕ) (x : X) → p x ≡ false → (position p xs ≡ Some k → ⊥) → position p (set xs k x) ≡ position p xs
position_fails p [] k x fails apart = refl
position_fails p (y ∷ ys) zero x fails apart =
    let rest = option_map suc (position p ys) in
    let head : p y ≡ false = head_fails (p y) rest (λ is. apart (position-cons p y ys ∙ is)) in
    position-cons p x ys ∙ ap (λ b. cond b (Some 0) rest) (fails ∙ sym head) ∙ sym (position-cons p y ys)
position_fails p (y ∷ ys) (suc k) x fails apart =
    position-cons p y (set ys k x) ∙ (elim (cases_Bool (p y)) [
      | inl passes_there ↦ ap (λ b. cond b (Some 0) (option_map suc (position p (set ys k x)))) passes_there ∙ sym (ap (λ b. cond b (Some 0) (option_map suc (position p ys))) passes_there)
      | inr fails_there ↦
          let rest = position_fails p ys k x fails
          (λ is. apart (position-cons p y ys ∙ ap (λ b. cond b (Some 0) (option_map suc (position p ys))) fails_there ∙ ap (option_map suc) is)) in
          ap (λ o. cond (p y) (Some 0) (option_map suc o)) rest
    ]) ∙ sym (position-cons p y ys)

-- an item that passes is put in the place of one that did or did not
next_earlier : (a b : Option ℕ) (t : Bool) (k : ℕ) → a ≡ earlier b (cond t (Some k) None) → option_map suc a ≡ earlier (option_map suc b) (cond t (Some (suc k)) None)
next_earlier a None true k is = ap (option_map suc) is
next_earlier a None false k is = ap (option_map suc) is
next_earlier a (Some b) true k is = let least : suc (min b k) ≡ min (suc b) (suc k) = omega arith in ap (option_map suc) is ∙ ap Some least
next_earlier a (Some b) false k is = ap (option_map suc) is

at_first : (o : Option ℕ) → Some 0 ≡ earlier o (Some 0)
at_first None = refl
at_first (Some k) = let least : 0 ≡ min k 0 = omega arith in ap Some least

first_stays : (t : Bool) (k : ℕ) → Some 0 ≡ earlier (Some 0) (cond t (Some k) None)
first_stays true k = let least : 0 ≡ min 0 k = omega arith in ap Some least
first_stays false k = refl

position_passes : {X : Type 0} (p : X → Bool) (xs : List X) (k : ℕ) (x : X) → k < length xs → ((d : X) → p (get_or xs k d) ≡ true → p x ≡ true)
    → position p (set xs k x) ≡ earlier (position p xs) (cond (p x) (Some k) None)
position_passes p [] k x within more = absurd (omega arith)
position_passes p (y ∷ ys) zero x within more =
    position-cons p x ys ∙ (elim (cases_Bool (p x)) [
      | inl is ↦
          ap (λ b. cond b (Some 0) (option_map suc (position p ys))) is ∙ at_first (position p (y ∷ ys)) ∙ sym (ap (λ b. earlier (position p (y ∷ ys)) (cond b (Some 0) None)) is)
      | inr fails ↦
          let head : p y ≡ false = false_from_ne_true (p y) (λ is. true≢false (sym (more y is) ∙ fails)) in
          ap (λ b. cond b (Some 0) (option_map suc (position p ys))) (fails ∙ sym head) ∙ sym (position-cons p y ys) ∙ sym (earlier_none (position p (y ∷ ys)))
          ∙ sym (ap (λ b. earlier (position p (y ∷ ys)) (cond b (Some 0) None)) fails)
    ])
position_passes p (y ∷ ys) (suc k) x within more =
    position-cons p y (set ys k x) ∙ (elim (cases_Bool (p y)) [
      | inl is ↦ ap (λ b. cond b (Some 0) (option_map suc (position p (set ys k x)))) is ∙ first_stays (p x) (suc k)
          ∙ sym (ap (λ b. earlier (cond b (Some 0) (option_map suc (position p ys))) (cond (p x) (Some (suc k)) None)) is)
      | inr fails ↦
          ap (λ b. cond b (Some 0) (option_map suc (position p (set ys k x)))) fails
          ∙ next_earlier (position p (set ys k x)) (position p ys) (p x) k (position_passes p ys k x (omega arith) more)
          ∙ sym (ap (λ b. earlier (cond b (Some 0) (option_map suc (position p ys))) (cond (p x) (Some (suc k)) None)) fails)
    ]) ∙ ap (λ o. earlier o (cond (p x) (Some (suc k)) None)) (sym (position-cons p y ys))

-- another mark at a place
zip_set : (rs : List Request) (marks : List ℕ) (k m : ℕ) (d : Request) → k < length rs → zip rs (set marks k m) ≡ set (zip rs marks) k (get_or rs k d, m)
zip_set [] marks k m d within = absurd (omega arith)
zip_set (r ∷ rs) [] k m d within = refl
zip_set (r ∷ rs) (n ∷ marks) zero m d within = refl
zip_set (r ∷ rs) (n ∷ marks) (suc k) m d within = ap (λ es. (r, n) ∷ es) (zip_set rs marks k m d (omega arith))

-- the first place that is left, before another request may be served
abbrev pub left_place : (Request → Bool) → List Arrived → ℕ → Option ℕ
left_place test log place = position (passes test) (zip (all_requests log) (set (eligible_column log) place 0))

all_long : (log : List Arrived) → length (all_requests log) ≡ length log
all_long log = length-map log (λ (a : Arrived). a.request)

pub left_stays : (test : Request → Bool) (log : List Arrived) (place : ℕ) → place < length log → (first_place test log ≡ Some place → ⊥) → left_place test log place ≡ first_place test log
left_stays test log place within apart =
    ap (position (passes test)) (zip_set (all_requests log) (eligible_column log) place 0 absent.request (omega (arith, all_long log)))
    ∙ position_fails (passes test) (marked_requests log) place (get_or (all_requests log) place absent.request, 0) refl apart

-- with the one that may be served now
pub with_next : (test : Request → Bool) (was log : List Arrived) (place : ℕ) (unblocked : Option ℕ) → IsServed was place unblocked log
    → earlier (left_place test was place) (passing test log unblocked) ≡ first_place test log
with_next test was log place None served =
    let rs = all_requests was in
    let all : all_requests log ≡ rs = ap all_requests served.log_is ∙ all_served was place in
    earlier_none (left_place test was place) ∙ sym (λ i. position (passes test) (zip (all i) (served.marks_are i)))
with_next test was log place (Some next) served =
    let rs = all_requests was in
    let marks = set (eligible_column was) place 0 in
    let all : all_requests log ≡ rs = ap all_requests served.log_is ∙ all_served was place in
    let long : next < length rs = omega (arith, served.next, ap length all, all_long log) in
    let r = get_or rs next absent.request in
    let r_is : r ≡ (get_or log next absent).request = ap (λ xs. get_or xs next absent.request) (sym all) ∙ get_or-map (λ (a : Arrived). a.request) log next absent absent.request served.next in
    let marks_long : length marks ≡ length rs = omega (arith, length-set (eligible_column was) place 0, length-eligible was, all_long was) in
    let more : (d : Request × ℕ) → passes test (get_or (zip rs marks) next d) ≡ true → passes test (r, 1) ≡ true =
    λ d is.
    let entry = get_or-zip rs marks next d long (omega arith) in
    let parts = and_parts (is_marked (get_or marks next d.1)) (test (get_or rs next d.0)) (sym (ap (passes test) entry) ∙ is) in
    ap test (get_or_default rs next absent.request d.0 long) ∙ parts.1 in
    let marked : position (passes test) (zip rs (set marks next 1)) ≡ earlier (left_place test was place) (cond (test r) (Some next) None) =
    ap (position (passes test)) (zip_set rs marks next 1 absent.request long)
    ∙ position_passes (passes test) (zip rs marks) next (r, 1) (omega (arith, zip_long rs marks marks_long)) more in
    ap (λ x. earlier (left_place test was place) (cond (test x) (Some next) None)) (sym r_is) ∙ sym marked
    ∙ sym (λ i. position (passes test) (zip (all i) (served.marks_are i)))

-- a mark says nothing of the requests behind it
marks_before : (older more : List Arrived) (k : ℕ) → k < length older → get_or (eligible_column (older ++ more)) k 0 ≡ get_or (eligible_column older) k 0
marks_before older more k within =
    ap (λ ms. get_or ms k 0) (eligible_append older more)
    ∙ get_or_append_left (eligible_column older) (marks_after (λ p. asks_for_line p (waiting_requests older)) more) 0 k (omega (arith, length-eligible older))

marks_front : (log : List Arrived) (n k : ℕ) → k < n → n ≤ length log → get_or (eligible_column log) k 0 ≡ get_or (eligible_column (take n log)) k 0
marks_front log n k sooner within =
    ap (λ xs. get_or (eligible_column xs) k 0) (sym (take-append-drop n log)) ∙ marks_before (take n log) (drop n log) k (omega (arith, length-take-le n log within))

-- none stands before the place behind the request that was served, if that was the first
pub none_left : (test : Request → Bool) (was log : List Arrived) (place : ℕ) (unblocked : Option ℕ) → IsServed was place unblocked log → first_place test was ≡ Some place
    → NonePassesBefore test log (place + 1)
none_left test was log place unblocked served is =
    let long : length log ≡ length was = ap length served.log_is ∙ length-served was place in
    let front : take place log ≡ take place was = ap (take place) served.log_is ∙ take-set was place _ in
    let fails = none_before_first test was place (sym is) in
    none_more test log place
    (λ k d sooner exists.
    let apart : k ≡ place → ⊥ = λ same. omega arith in
    let mark_is : get_or (eligible_column log) k 0 ≡ get_or (eligible_column was) k 0 =
    marks_front log place k sooner (omega arith) ∙ ap (λ xs. get_or (eligible_column xs) k 0) front ∙ sym (marks_front was place k sooner (omega arith)) in
    let item_is : get_or log k absent ≡ get_or was k absent = ap (λ xs. get_or xs k absent) served.log_is ∙ get_or-set_other was place k _ absent apart in
    here_is test log k absent d exists ∙ (λ i. is_marked (mark_is i) && test (item_is i).request) ∙ sym (here_is test was k absent d (omega arith)) ∙ fails k d sooner (omega arith))
    (λ d within.
    let m = is_marked (get_or (eligible_column log) place 0) in
    let gone : (get_or log place absent).waits ≡ false = ap (λ xs. (get_or xs place absent).waits) served.log_is ∙ ap (λ (a : Arrived). a.waits) (get_or-set_same was place _ absent served.within) in
    let unmarked : m ≡ false = false_from_ne_true m (λ marked. true≢false (sym (marked_waits log place absent within marked) ∙ gone)) in
    here_is test log place absent d within ∙ ap (λ b. b && test (get_or log place absent).request) unmarked)

is_there : (candidate : Option ℕ) (place : ℕ) → (candidate ≡ Some place) ⊎ (candidate ≡ Some place → ⊥)
is_there None place = inr (λ same. cc)
is_there (Some k) place = elim (cases_eq k place) [
  | inl same ↦ inl (ap Some same)
  | inr apart ↦ inr (λ same. apart (cc))
]

-- a candidate that stays, or is replaced by the next one where it was the request that was served
pub left_candidate : (test : Request → Bool) (was log : List Arrived) (place : ℕ) (unblocked : Option ℕ) (old new : Option ℕ) → IsServed was place unblocked log → old ≡ first_place test was
    → ((old ≡ Some place → ⊥) → new ≡ old) → (old ≡ Some place → NonePassesBefore test log (place + 1) → new ≡ first_place test log)
    → earlier new (passing test log unblocked) ≡ first_place test log
left_candidate test was log place unblocked old new served is kept found =
    let next = passing test log unblocked in
    let whole = with_next test was log place unblocked served in
    elim (is_there old place) [
      | inl there ↦
          ap (λ o. earlier o next) (found there (none_left test was log place unblocked served (sym is ∙ there)) ∙ sym whole) ∙ earlier_twice (left_place test was place) next ∙ whole
      | inr apart ↦
          ap (λ o. earlier o next) (kept apart ∙ is ∙ sym (left_stays test was place served.within (λ same. apart (is ∙ same)))) ∙ whole
    ]

-- a request that fails a test is not the first that passes it
not_there : (test : Request → Bool) (log : List Arrived) (place : ℕ) → place < length log → test (get_or log place absent).request ≡ false → first_place test log ≡ Some place → ⊥
not_there test log place within fails is =
    let d : Request × ℕ = (absent.request, 0) in
    let m = is_marked (get_or (eligible_column log) place 0) in
    let passed : passes test (get_or (marked_requests log) place d) ≡ true = (position-Some (passes test) (marked_requests log) place d is).1 in
    let parts = and_parts m (test (get_or log place absent).request) (sym (here_is test log place absent d within) ∙ passed) in
    true≢false (sym parts.1 ∙ fails)

-- a candidate that the request that was served is not for
pub other_candidate : (test : Request → Bool) (was log : List Arrived) (place : ℕ) (unblocked : Option ℕ) (old : Option ℕ) → IsServed was place unblocked log
    → test (get_or was place absent).request ≡ false → old ≡ first_place test was → earlier old (passing test log unblocked) ≡ first_place test log
other_candidate test was log place unblocked old served fails is =
    left_candidate test was log place unblocked old old served is (λ apart. refl) (λ there none. absurd (not_there test was place served.within fails (sym is ∙ there)))

-- none, where there is none
pub no_candidate : (test : Request → Bool) (was log : List Arrived) (place : ℕ) (unblocked : Option ℕ) (new : Option ℕ) → IsServed was place unblocked log → new ≡ None → None ≡ first_place test log
    → earlier new (passing test log unblocked) ≡ first_place test log
no_candidate test was log place unblocked new served is none =
    let next = passing test log unblocked in
    ap (λ o. earlier o next) is ∙ earlier_neither (left_place test was place) next (with_next test was log place unblocked served ∙ sym none) ∙ none

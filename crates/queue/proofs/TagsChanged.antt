-- The tags and the number of blocked requests of a log that has changed.
use Rattle.std.proofs.Common.{◌≡◌, ◌≢◌, ℕ, zero, suc, ◌+◌, ◌<◌, ◌≤◌, Bool, true, false, not, cond, ◌&&◌, List, [], ◌∷◌, ◌++◌, length, get_or, set, refl, sym, ap, ◌∙◌, arith}
use Rattle.std.proofs.lemmas.List.{get_or-set_other, set-get_or, length-set}
use Rattle.std.proofs.lemmas.List.Sums.{sum_by-cons, sum_by_push}
use Rattle.std.specs.List.{zip, count_by}
use Rattle.sim_base.specs.Scheduling.{asks_for_line}
use Rattle.sim_base.specs.declared.message.Request.{Request}
use Rattle.queue.specs.declared.request_log.Arrived.{Arrived}
use Rattle.queue.specs.Marks.{is_marked}
use Rattle.sim_base.specs.Counts.{one_if}
use Rattle.queue.specs.Log.{absent, waiting_requests, eligible_column, arrived_now, served_at, waits_at}
use Rattle.queue.specs.Columns.{tag_of, tags_of, tag_column, served_tag, is_blocked, blocked_count}
use Rattle.queue.proofs.Eligible.{eligible_push, length-eligible}
use Rattle.queue.proofs.Served.{marked_mark}
use Rattle.queue.proofs.Renumbered.{weight}

tags_push : (log : List Arrived) (marks : List ℕ) (a : Arrived) (m : ℕ) → length log ≡ length marks → tags_of (log ++ a ∷ []) (marks ++ m ∷ []) ≡ tags_of log marks ++ tag_of (is_marked m) a ∷ []
tags_push [] [] a m same = refl
tags_push [] (n ∷ marks) a m same = absurd (omega arith)
tags_push (b ∷ log) [] a m same = absurd (omega arith)
tags_push (b ∷ log) (n ∷ marks) a m same = ap (λ tags. tag_of (is_marked n) b ∷ tags) (tags_push log marks a m (omega arith))

-- the tags of a log and one more
pub tag_push : (log : List Arrived) (r : Request)
    → tag_column (log ++ arrived_now r ∷ []) ≡ tag_column log ++ tag_of (not (asks_for_line r.place (waiting_requests log))) (arrived_now r) ∷ []
unfolding tag_column
tag_push log r =
    let fresh = not (asks_for_line r.place (waiting_requests log)) in
    ap (tags_of (log ++ arrived_now r ∷ [])) (eligible_push log (arrived_now r))
    ∙ tags_push log (eligible_column log) (arrived_now r) (one_if fresh) (sym (length-eligible log))
    ∙ ap (λ b. tags_of log (eligible_column log) ++ tag_of b (arrived_now r) ∷ []) (marked_mark fresh)

tags_set : (log : List Arrived) (marks : List ℕ) (n : ℕ) (a : Arrived) (m : ℕ) → tags_of (set log n a) (set marks n m) ≡ set (tags_of log marks) n (tag_of (is_marked m) a)
tags_set [] marks n a m = refl
tags_set (b ∷ log) [] zero a m = refl
tags_set (b ∷ log) [] (suc n) a m = refl
tags_set (b ∷ log) (w ∷ marks) zero a m = refl
tags_set (b ∷ log) (w ∷ marks) (suc n) a m = ap (λ tags. tag_of (is_marked w) b ∷ tags) (tags_set log marks n a m)

tags_marked : (log : List Arrived) (marks : List ℕ) (n : ℕ) (d : Arrived) → tags_of log (set marks n 1) ≡ set (tags_of log marks) n (tag_of true (get_or log n d))
tags_marked log marks n d = ap (λ l. tags_of l (set marks n 1)) (sym (set-get_or log n d)) ∙ tags_set log marks n (get_or log n d) 1

-- the tags once a request is served and no other one changes
pub tag_left : (log : List Arrived) (place : ℕ) → eligible_column (served_at log place) ≡ set (eligible_column log) place 0 → tag_column (served_at log place) ≡ set (tag_column log) place served_tag
unfolding tag_column
tag_left log place marks = ap (tags_of (served_at log place)) marks ∙ tags_set log (eligible_column log) place _ 0

-- the tags once a request is served and the next one for its line is no longer blocked
pub tag_unblocked : (log : List Arrived) (place next : ℕ) → eligible_column (served_at log place) ≡ set (set (eligible_column log) place 0) next 1
    → tag_column (served_at log place) ≡ set (set (tag_column log) place served_tag) next (tag_of true (get_or (served_at log place) next absent))
unfolding tag_column
tag_unblocked log place next marks =
    let left = served_at log place in
    ap (tags_of left) marks
    ∙ tags_marked left (set (eligible_column log) place 0) next absent
    ∙ ap (λ tags. set tags next (tag_of true (get_or left next absent))) (tags_set log (eligible_column log) place _ 0)

zip_push : (log : List Arrived) (marks : List ℕ) (a : Arrived) (m : ℕ) → length log ≡ length marks → zip (log ++ a ∷ []) (marks ++ m ∷ []) ≡ zip log marks ++ (a, m) ∷ []
zip_push [] [] a m same = refl
zip_push [] (n ∷ marks) a m same = absurd (omega arith)
zip_push (b ∷ log) [] a m same = absurd (omega arith)
zip_push (b ∷ log) (n ∷ marks) a m same = ap (λ es. (b, n) ∷ es) (zip_push log marks a m (omega arith))

blocked_mark : (asked : Bool) → cond {A = ℕ} (not (is_marked (one_if (not asked)))) 1 0 ≡ cond asked 1 0
blocked_mark true = refl
blocked_mark false = refl

-- a request that arrives is blocked where its line was asked for
pub blocked_push : (log : List Arrived) (r : Request) → blocked_count (log ++ arrived_now r ∷ []) ≡ blocked_count log + cond (asks_for_line r.place (waiting_requests log)) 1 0
blocked_push log r =
    let asked = asks_for_line r.place (waiting_requests log) in
    ap (λ ms. count_by is_blocked (zip (log ++ arrived_now r ∷ []) ms)) (eligible_push log (arrived_now r))
    ∙ ap (count_by is_blocked) (zip_push log (eligible_column log) (arrived_now r) (one_if (not asked)) (sym (length-eligible log)))
    ∙ sum_by_push weight (zip log (eligible_column log)) (arrived_now r, one_if (not asked))
    ∙ ap (λ n. blocked_count log + n) (blocked_mark asked)

and_none : (b : Bool) → cond {A = ℕ} (b && false) 1 0 ≡ 0
and_none true = refl
and_none false = refl

counted_set : (log : List Arrived) (marks : List ℕ) (n : ℕ) (a : Arrived) (m : ℕ) → n < length log → length log ≡ length marks
    → count_by is_blocked (zip (set log n a) (set marks n m)) + weight (get_or log n absent, get_or marks n 0) ≡ count_by is_blocked (zip log marks) + weight (a, m)
counted_set [] marks n a m within same = absurd (omega (arith, within))
counted_set (b ∷ log) [] n a m within same = absurd (omega (arith, same))
counted_set (b ∷ log) (w ∷ marks) zero a m within same = omega (arith, sum_by-cons weight (a, m) (zip log marks), sum_by-cons weight (b, w) (zip log marks))
counted_set (b ∷ log) (w ∷ marks) (suc n) a m within same =
    omega (
      arith,
      counted_set log marks n a m (omega (arith, within)) (omega (arith, same)),
      sum_by-cons weight (b, w) (zip (set log n a) (set marks n m)),
      sum_by-cons weight (b, w) (zip log marks),
    )

-- a request that is served and was blocked counts as blocked no longer
pub blocked_left : (log : List Arrived) (place : ℕ) → place < length log → waits_at log place ≡ true → eligible_column (served_at log place) ≡ set (eligible_column log) place 0
    → blocked_count (served_at log place) + cond (not (is_marked (get_or (eligible_column log) place 0))) 1 0 ≡ blocked_count log
blocked_left log place within waits marks =
    let counted = counted_set log (eligible_column log) place (record (get_or log place absent) { waits = false }) 0 within (sym (length-eligible log)) in
    let same = ap (λ ms. count_by is_blocked (zip (served_at log place) ms)) marks in
    let one = ap (λ w. cond {A = ℕ} (w && not (is_marked (get_or (eligible_column log) place 0))) 1 0) waits in
    omega (arith, counted, same, one)

-- a request that is served and was the first of its line unblocks the next one for it
pub blocked_next : (log : List Arrived) (place next : ℕ) → place < length log → waits_at log place ≡ true → is_marked (get_or (eligible_column log) place 0) ≡ true → place < next → next < length log
    → waits_at log next ≡ true → is_marked (get_or (eligible_column log) next 0) ≡ false
    → eligible_column (served_at log place) ≡ set (set (eligible_column log) place 0) next 1 → blocked_count (served_at log place) + 1 ≡ blocked_count log
blocked_next log place next within waits first behind below waits_next blocked marks =
    let column = eligible_column log in
    let left = served_at log place in
    let counted = counted_set log column place (record (get_or log place absent) { waits = false }) 0 within (sym (length-eligible log)) in
    let none : weight (get_or log place absent, get_or column place 0) ≡ 0 = λ i. cond (waits i && not (first i)) 1 0 in
    let long : length (set column place 0) ≡ length log = length-set column place 0 ∙ length-eligible log in
    let turned = counted_set left (set column place 0) next (get_or left next absent) 1 (omega (arith, below, length-set log place (record (get_or log place absent) { waits = false }))) (length-set log place _ ∙ sym long) in
    let whole : set left next (get_or left next absent) ≡ left = set-get_or left next absent in
    let same = ap (λ ms. count_by is_blocked (zip left ms)) marks in
    let other : next ≢ place = λ e. omega (arith, e, behind) in
    let there : get_or left next absent ≡ get_or log next absent = get_or-set_other log place next (record (get_or log place absent) { waits = false }) absent other in
    let one : weight (get_or left next absent, get_or (set column place 0) next 0) ≡ 1 =
    (λ i. weight (there i, get_or-set_other column place next 0 0 other i)) ∙ (λ i. cond (waits_next i && not (blocked i)) 1 0) in
    let last : weight (get_or left next absent, 1) ≡ 0 = and_none (get_or left next absent).waits in
    let again = ap (λ l. count_by is_blocked (zip l (set (set column place 0) next 1))) whole in
    omega (arith, counted, none, turned, same, one, last, again)

-- where some request is blocked, the count says so
pub blocked_some : (log : List Arrived) (k : ℕ) → k < length log → waits_at log k ≡ true → is_marked (get_or (eligible_column log) k 0) ≡ false → 1 ≤ blocked_count log
blocked_some log k within waits blocked =
    let counted = counted_set log (eligible_column log) k (get_or log k absent) 1 within (sym (length-eligible log)) in
    let one : weight (get_or log k absent, get_or (eligible_column log) k 0) ≡ 1 = λ i. cond (waits i && not (blocked i)) 1 0 in
    let last : weight (get_or log k absent, 1) ≡ 0 = and_none (get_or log k absent).waits in
    omega (arith, counted, one, last)

-- The log of those that wait has their marks and their tags.
use Rattle.std.proofs.Common.{◌≡◌, ℕ, suc, ◌+◌, Bool, true, false, not, cond, ◌&&◌, ◌||◌, List, [], ◌∷◌, length, drop, map, filter, refl, sym, ap, ◌∙◌, inl, inr, arith}
use Rattle.std.proofs.lemmas.Bool.{cases_Bool}
use Rattle.std.proofs.lemmas.List.Sums.{sum_by-cons}
use Rattle.std.specs.List.{zip, count_by, prefix_len}
use Rattle.std.proofs.Math.Bool.{or-false}
use Rattle.sim_base.specs.Places.{is_line}
use Rattle.sim_base.specs.declared.place.Place.{Place}
use Rattle.queue.specs.declared.request_log.Arrived.{Arrived}
use Rattle.queue.specs.Marks.{is_marked}
use Rattle.sim_base.specs.Counts.{one_if}
use Rattle.queue.specs.Log.{waiting, eligible_column}
use Rattle.queue.specs.Columns.{tag_of, tags_of, tag_column, is_blocked, blocked_count, waiting_items}
use Rattle.queue.proofs.Eligible.{asked_with, marks_after, eligible_is}

-- in the log of the requests that wait, all wait
pub waiting_twice : (log : List Arrived) → waiting (waiting log) ≡ waiting log
unfolding waiting
waiting_twice [] = refl
waiting_twice (a ∷ log) = elim (cases_Bool a.waits) [
  | inl does ↦
      ap (λ b. filter (λ x. x.waits) (cond b (a ∷ waiting log) (waiting log))) does
      ∙ ap (λ b. cond b (a ∷ waiting (waiting log)) (waiting (waiting log))) does
      ∙ ap (λ rest. a ∷ rest) (waiting_twice log)
      ∙ ap (λ b. cond b (a ∷ waiting log) (waiting log)) (sym does)
  | inr not ↦
      ap (λ b. filter (λ x. x.waits) (cond b (a ∷ waiting log) (waiting log))) not
      ∙ waiting_twice log
      ∙ ap (λ b. cond b (a ∷ waiting log) (waiting log)) (sym not)
]

items_none : (items : List ℕ) → waiting_items [] (drop 0 items) ≡ waiting_items [] items
items_none items = refl

-- the requests that were served before all that wait may be left out
abbrev pub served_before : List Arrived → ℕ
served_before log = prefix_len (λ a. not a.waits) log

pub front_waiting : (log : List Arrived) → waiting (drop (served_before log) log) ≡ waiting log
unfolding waiting
front_waiting [] = refl
front_waiting (a ∷ log) = by a.waits refl (front_waiting log)
  where
    by : (b : Bool) → a.waits ≡ b → filter (λ x. x.waits) (drop (served_before log) log) ≡ filter (λ x. x.waits) log
        → filter (λ x. x.waits) (drop (cond (not a.waits) (1 + served_before log) 0) (a ∷ log)) ≡ cond a.waits (a ∷ filter (λ x. x.waits) log) (filter (λ x. x.waits) log)
    by true e rest = ap (λ b. filter (λ x. x.waits) (drop (cond (not b) (1 + served_before log) 0) (a ∷ log))) e
    by false e rest =
        ap (λ b. filter (λ x. x.waits) (drop (cond (not b) (1 + served_before log) 0) (a ∷ log))) e
        ∙ ap (λ n. filter (λ x. x.waits) (drop n (a ∷ log))) (let one : 1 + served_before log ≡ suc (served_before log) = omega arith in one)
        ∙ rest
        ∙ ap (λ b. cond b (a ∷ filter (λ x. x.waits) log) (filter (λ x. x.waits) log)) (sym e)

pub front_items : (log : List Arrived) (items : List ℕ) → length items ≡ length log
    → waiting_items (drop (served_before log) log) (drop (served_before log) items) ≡ waiting_items log items
front_items [] items long = items_none items
front_items (a ∷ log) [] long = absurd (omega (arith, long))
front_items (a ∷ log) (x ∷ items) long = by a.waits refl (front_items log items (omega (arith, long)))
  where
    kept : Bool → List (Arrived × ℕ)
    kept b = cond b ((a, x) ∷ filter (λ e. e.0.waits) (zip log items)) (filter (λ e. e.0.waits) (zip log items))

    by : (b : Bool) → a.waits ≡ b → waiting_items (drop (served_before log) log) (drop (served_before log) items) ≡ waiting_items log items
        → waiting_items (drop (cond (not a.waits) (1 + served_before log) 0) (a ∷ log)) (drop (cond (not a.waits) (1 + served_before log) 0) (x ∷ items))
        ≡ map (λ e. e.1) (kept a.waits)
    by true e rest = ap (λ b. waiting_items (drop (cond (not b) (1 + served_before log) 0) (a ∷ log)) (drop (cond (not b) (1 + served_before log) 0) (x ∷ items))) e
    by false e rest =
        ap (λ b. waiting_items (drop (cond (not b) (1 + served_before log) 0) (a ∷ log)) (drop (cond (not b) (1 + served_before log) 0) (x ∷ items))) e
        ∙ ap (λ n. waiting_items (drop n (a ∷ log)) (drop n (x ∷ items))) (let one : 1 + served_before log ≡ suc (served_before log) = omega arith in one)
        ∙ rest
        ∙ ap (λ b. map (λ e. e.1) (kept b)) (sym e)

marks_waiting : (asked : Place → Bool) (log : List Arrived) → marks_after asked (waiting log) ≡ waiting_items log (marks_after asked log)
unfolding waiting
marks_waiting asked [] = refl
marks_waiting asked (a ∷ log) =
    let word = one_if (a.waits && not (asked a.request.place)) in
    let rest = marks_after (asked_with asked a) log in
    elim (cases_Bool a.waits) [
      | inl does ↦
          ap (λ b. marks_after asked (cond b (a ∷ waiting log) (waiting log))) does
          ∙ ap (λ ms. word ∷ ms) (marks_waiting (asked_with asked a) log)
          ∙ ap (λ b. map (λ (e : Arrived × ℕ). e.1) (cond b ((a, word) ∷ filter (λ e. e.0.waits) (zip log rest)) (filter (λ e. e.0.waits) (zip log rest)))) (sym does)
      | inr none ↦
          let same : (p : Place) → asked_with asked a p ≡ asked p = λ p. ap (λ b. asked p || (b && is_line a.request.place p)) none ∙ or-false (asked p) in
          ap (λ b. marks_after asked (cond b (a ∷ waiting log) (waiting log))) none
          ∙ ap (λ (f : Place → Bool). marks_after f (waiting log)) (λ i p. sym (same p) i)
          ∙ marks_waiting (asked_with asked a) log
          ∙ ap (λ b. map (λ (e : Arrived × ℕ). e.1) (cond b ((a, word) ∷ filter (λ e. e.0.waits) (zip log rest)) (filter (λ e. e.0.waits) (zip log rest)))) (sym none)
    ]

-- the marks of those that wait
eligible_waiting : (log : List Arrived) → eligible_column (waiting log) ≡ waiting_items log (eligible_column log)
eligible_waiting log = eligible_is (waiting log) ∙ marks_waiting (λ p. false) log ∙ ap (waiting_items log) (sym (eligible_is log))

tags_none : (log : List Arrived) → tags_of log [] ≡ []
tags_none [] = refl
tags_none (a ∷ log) = refl

tags_waiting : (log : List Arrived) (marks : List ℕ) → tags_of (waiting log) (waiting_items log marks) ≡ waiting_items log (tags_of log marks)
unfolding waiting
tags_waiting [] marks = refl
tags_waiting (a ∷ log) [] = tags_none (waiting (a ∷ log))
tags_waiting (a ∷ log) (m ∷ marks) =
    let tag = tag_of (is_marked m) a in
    elim (cases_Bool a.waits) [
      | inl does ↦
          ap (λ b. tags_of (cond b (a ∷ waiting log) (waiting log)) (map (λ (e : Arrived × ℕ). e.1) (cond b ((a, m) ∷ filter (λ e. e.0.waits) (zip log marks)) (filter (λ e. e.0.waits) (zip log marks))))) does
          ∙ ap (λ tags. tag ∷ tags) (tags_waiting log marks)
          ∙ ap (λ b. map (λ (e : Arrived × ℕ). e.1) (cond b ((a, tag) ∷ filter (λ e. e.0.waits) (zip log (tags_of log marks))) (filter (λ e. e.0.waits) (zip log (tags_of log marks))))) (sym does)
      | inr none ↦
          ap (λ b. tags_of (cond b (a ∷ waiting log) (waiting log)) (map (λ (e : Arrived × ℕ). e.1) (cond b ((a, m) ∷ filter (λ e. e.0.waits) (zip log marks)) (filter (λ e. e.0.waits) (zip log marks))))) none
          ∙ tags_waiting log marks
          ∙ ap (λ b. map (λ (e : Arrived × ℕ). e.1) (cond b ((a, tag) ∷ filter (λ e. e.0.waits) (zip log (tags_of log marks))) (filter (λ e. e.0.waits) (zip log (tags_of log marks))))) (sym none)
    ]

-- the tags of those that wait
pub tag_waiting : (log : List Arrived) → tag_column (waiting log) ≡ waiting_items log (tag_column log)
unfolding tag_column
tag_waiting log = ap (tags_of (waiting log)) (eligible_waiting log) ∙ tags_waiting log (eligible_column log)

zip_none : (log : List Arrived) → zip {X = ℕ} log [] ≡ []
zip_none [] = refl
zip_none (a ∷ log) = refl

nothing_more : (n : ℕ) → n ≡ 0 + n
nothing_more n = omega arith

abbrev pub weight : Arrived × ℕ → ℕ
weight e = cond (is_blocked e) 1 0

counted_waiting : (log : List Arrived) (marks : List ℕ) → count_by is_blocked (zip (waiting log) (waiting_items log marks)) ≡ count_by is_blocked (zip log marks)
unfolding waiting
counted_waiting [] marks = refl
counted_waiting (a ∷ log) [] = ap (count_by is_blocked) (zip_none (waiting (a ∷ log)))
counted_waiting (a ∷ log) (m ∷ marks) = elim (cases_Bool a.waits) [
  | inl does ↦
      ap (λ b. count_by is_blocked (zip (cond b (a ∷ waiting log) (waiting log)) (map (λ (e : Arrived × ℕ). e.1) (cond b ((a, m) ∷ filter (λ e. e.0.waits) (zip log marks)) (filter (λ e. e.0.waits) (zip log marks)))))) does
      ∙ sum_by-cons weight (a, m) (zip (waiting log) (waiting_items log marks))
      ∙ ap (λ n. weight (a, m) + n) (counted_waiting log marks)
      ∙ sym (sum_by-cons weight (a, m) (zip log marks))
  | inr none ↦
      ap (λ b. count_by is_blocked (zip (cond b (a ∷ waiting log) (waiting log)) (map (λ (e : Arrived × ℕ). e.1) (cond b ((a, m) ∷ filter (λ e. e.0.waits) (zip log marks)) (filter (λ e. e.0.waits) (zip log marks)))))) none
      ∙ counted_waiting log marks
      ∙ nothing_more (count_by is_blocked (zip log marks))
      ∙ ap (λ b. cond (b && not (is_marked m)) 1 0 + count_by is_blocked (zip log marks)) (sym none)
      ∙ sym (sum_by-cons weight (a, m) (zip log marks))
]

-- as many are blocked
pub blocked_waiting : (log : List Arrived) → blocked_count (waiting log) ≡ blocked_count log
blocked_waiting log = ap (λ ms. count_by is_blocked (zip (waiting log) ms)) (eligible_waiting log) ∙ counted_waiting log (eligible_column log)

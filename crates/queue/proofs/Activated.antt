-- An ACT in the name of a request changes neither marks nor tags, nor what waits.
use Rattle.std.proofs.Common.{◌≡◌, ℕ, zero, suc, Bool, true, false, not, cond, ◌&&◌, List, [], ◌∷◌, ◌++◌, ◌+◌, length, get_or, refl, sym, ap, ◌∙◌}
use Rattle.std.proofs.lemmas.List.{length-set}
use Rattle.std.specs.List.{zip, count_by}
use Rattle.std.proofs.lemmas.List.Sums.{sum_by-cons}
use Rattle.sim_base.specs.declared.place.Place.{Place}
use Rattle.queue.specs.declared.request_log.Arrived.{Arrived}
use Rattle.queue.specs.Marks.{is_marked}
use Rattle.sim_base.specs.Counts.{one_if}
use Rattle.queue.specs.Log.{absent, waiting_requests, all_requests, eligible_column, activated_at}
use Rattle.queue.specs.Columns.{tag_of, tags_of, tag_column, is_blocked, blocked_count}
use Rattle.queue.proofs.Waiting.{waiting_first, if_waits}
use Rattle.queue.proofs.Eligible.{asked_with, marks_after, eligible_is}

pub length-activated : (log : List Arrived) (place : ℕ) → length (activated_at log place) ≡ length log
length-activated log place = length-set log place (record (get_or log place absent) { activated = true })

pub all_activated : (log : List Arrived) (place : ℕ) → all_requests (activated_at log place) ≡ all_requests log
all_activated [] place = refl
all_activated (a ∷ log) zero = refl
all_activated (a ∷ log) (suc place) = ap (λ rs. a.request ∷ rs) (all_activated log place)

-- the same requests wait after an ACT in the name of a request
pub waiting_activated : (log : List Arrived) (place : ℕ) → waiting_requests (activated_at log place) ≡ waiting_requests log
waiting_activated [] place = refl
waiting_activated (a ∷ log) zero = waiting_first (record a { activated = true }) log ∙ sym (waiting_first a log)
waiting_activated (a ∷ log) (suc place) =
    waiting_first a (activated_at log place) ∙ ap (λ rs. if_waits a ++ rs) (waiting_activated log place) ∙ sym (waiting_first a log)

marks_activated : (asked : Place → Bool) (log : List Arrived) (place : ℕ) → marks_after asked (activated_at log place) ≡ marks_after asked log
marks_activated asked [] place = refl
marks_activated asked (a ∷ log) zero = refl
marks_activated asked (a ∷ log) (suc place) = ap (λ ms. one_if (a.waits && not (asked a.request.place)) ∷ ms) (marks_activated (asked_with asked a) log place)

-- the marks are the same
pub eligible_activated : (log : List Arrived) (place : ℕ) → eligible_column (activated_at log place) ≡ eligible_column log
eligible_activated log place = eligible_is (activated_at log place) ∙ marks_activated (λ p. false) log place ∙ sym (eligible_is log)

tags_activated : (log : List Arrived) (marks : List ℕ) (place : ℕ) → tags_of (activated_at log place) marks ≡ tags_of log marks
tags_activated [] marks place = refl
tags_activated (a ∷ log) [] zero = refl
tags_activated (a ∷ log) [] (suc place) = refl
tags_activated (a ∷ log) (m ∷ marks) zero = refl
tags_activated (a ∷ log) (m ∷ marks) (suc place) = ap (λ tags. tag_of (is_marked m) a ∷ tags) (tags_activated log marks place)

-- the tags are the same
pub tag_activated : (log : List Arrived) (place : ℕ) → tag_column (activated_at log place) ≡ tag_column log
unfolding tag_column
tag_activated log place = ap (tags_of (activated_at log place)) (eligible_activated log place) ∙ tags_activated log (eligible_column log) place

counted_activated : (log : List Arrived) (marks : List ℕ) (place : ℕ) → count_by is_blocked (zip (activated_at log place) marks) ≡ count_by is_blocked (zip log marks)
counted_activated [] marks place = refl
counted_activated (a ∷ log) [] zero = refl
counted_activated (a ∷ log) [] (suc place) = refl
counted_activated (a ∷ log) (m ∷ marks) zero =
    sum_by-cons (λ e. cond (is_blocked e) 1 0) (record a { activated = true }, m) (zip log marks) ∙ sym (sum_by-cons (λ e. cond (is_blocked e) 1 0) (a, m) (zip log marks))
counted_activated (a ∷ log) (m ∷ marks) (suc place) =
    sum_by-cons (λ e. cond (is_blocked e) 1 0) (a, m) (zip (activated_at log place) marks)
    ∙ ap (λ n. cond (is_blocked (a, m)) 1 0 + n) (counted_activated log marks place)
    ∙ sym (sum_by-cons (λ e. cond (is_blocked e) 1 0) (a, m) (zip log marks))

-- as many are blocked
pub blocked_activated : (log : List Arrived) (place : ℕ) → blocked_count (activated_at log place) ≡ blocked_count log
blocked_activated log place = ap (λ ms. count_by is_blocked (zip (activated_at log place) ms)) (eligible_activated log place) ∙ counted_activated log (eligible_column log) place

-- The requests that are marked are the first ones of their lines among those that wait.
use Rattle.std.proofs.Common.{◌≡◌, ℕ, ◌+◌, Bool, true, false, not, cond, ◌&&◌, ◌||◌, List, [], ◌∷◌, ◌++◌, length, map, filter, take, refl, sym, ap, ◌∙◌, inl, inr}
use Rattle.std.proofs.lemmas.Bool.{cases_Bool}
use Rattle.std.proofs.lemmas.List.{take_at, length_push, append_assoc}
use Rattle.std.proofs.lemmas.List.Folds.{list_any-append}
use Rattle.std.specs.List.{list_any, enumerate_from, zip}
use Rattle.std.proofs.Math.Bool.{or-false}
use Rattle.sim_base.specs.Places.{is_line}
use Rattle.sim_base.specs.Scheduling.{asks_for_line, first_of_lines}
use Rattle.sim_base.specs.declared.message.Request.{Request}
use Rattle.sim_base.specs.declared.place.Place.{Place}
use Rattle.queue.specs.declared.request_log.Arrived.{Arrived}
use Rattle.queue.specs.Marks.{is_marked}
use Rattle.sim_base.specs.Counts.{one_if}
use Rattle.queue.specs.Log.{waiting, waiting_requests, all_requests, eligible_column}
use Rattle.queue.specs.Columns.{marked_items}
use Rattle.queue.proofs.Waiting.{waiting_first, if_waits}
use Rattle.queue.proofs.Eligible.{asked_with, marks_after, eligible_is}

abbrev asked_too : (Place → Bool) → Request → Place → Bool
asked_too asked r p = asked p || is_line r.place p

-- the first requests of their lines among some that follow others, by which lines those asked for
abbrev firsts_after : (Place → Bool) → List Request → List Request
firsts_after asked [] = []
firsts_after asked (r ∷ rs) = cond (not (asked r.place)) (r ∷ firsts_after (asked_too asked r) rs) (firsts_after (asked_too asked r) rs)

asks_more : (p : Place) (older : List Request) (r : Request) → asks_for_line p (older ++ r ∷ []) ≡ asked_too (λ q. asks_for_line q older) r p
unfolding asks_for_line
asks_more p older r =
    list_any-append (λ q. is_line q.place p) older (r ∷ []) ∙ ap (λ b. list_any (λ (q : Request). is_line q.place p) older || b) (or-false (is_line r.place p))

firsts_next : (b c : Bool) (n : ℕ) (r : Request) (marked_requests : List (ℕ × Request)) (rest : List Request) → b ≡ c → map (λ e. e.1) marked_requests ≡ rest
    → map (λ e. e.1) (cond b ((n, r) ∷ marked_requests) marked_requests) ≡ cond c (r ∷ rest) rest
firsts_next true c n r marked_requests rest same rest_is = ap (λ rs. r ∷ rs) rest_is ∙ ap (λ b. cond b (r ∷ rest) rest) same
firsts_next false c n r marked_requests rest same rest_is = rest_is ∙ ap (λ b. cond b (r ∷ rest) rest) same

firsts_from : (older rs : List Request) (n : ℕ) → length older ≡ n
    → map (λ e. e.1) (filter (λ e. not (asks_for_line e.1.place (take e.0 (older ++ rs)))) (enumerate_from n rs)) ≡ firsts_after (λ p. asks_for_line p older) rs
firsts_from older [] n long = refl
firsts_from older (r ∷ rs) n long =
    let whole : older ++ r ∷ rs ≡ (older ++ r ∷ []) ++ rs = sym (append_assoc older (r ∷ []) rs) in
    let before : take n (older ++ r ∷ rs) ≡ older = take_at older (r ∷ rs) n long in
    let longer : length (older ++ r ∷ []) ≡ n + 1 = length_push older r ∙ ap (λ k. k + 1) long in
    let marked_requests = filter (λ e. not (asks_for_line e.1.place (take e.0 (older ++ r ∷ rs)))) (enumerate_from (n + 1) rs) in
    let rest : map (λ (e : ℕ × Request). e.1) marked_requests ≡ firsts_after (asked_too (λ p. asks_for_line p older) r) rs =
    ap (λ (w : List Request). map (λ e. e.1) (filter (λ e. not (asks_for_line e.1.place (take e.0 w))) (enumerate_from (n + 1) rs))) whole
    ∙ firsts_from (older ++ r ∷ []) rs (n + 1) longer
    ∙ ap (λ (f : Place → Bool). firsts_after f rs) (λ i p. asks_more p older r i) in
    firsts_next (not (asks_for_line r.place (take n (older ++ r ∷ rs)))) (not (asks_for_line r.place older)) n r marked_requests _ (ap (λ rs. not (asks_for_line r.place rs)) before) rest

firsts_are : (rs : List Request) → first_of_lines rs ≡ firsts_after (λ p. false) rs
unfolding first_of_lines asks_for_line
firsts_are rs = firsts_from [] rs 0 refl

marked_next : (b c : Bool) (a : Arrived) (pairs : List (Request × ℕ)) (rest : List Request) → map (λ p. p.0) pairs ≡ rest
    → map (λ p. p.0) (cond (is_marked (one_if (b && c))) ((a.request, one_if (b && c)) ∷ pairs) pairs) ≡ cond b (cond c (a.request ∷ rest) rest) rest
marked_next true true a pairs rest same = ap (λ rs. a.request ∷ rs) same
marked_next true false a pairs rest same = same
marked_next false c a pairs rest same = same

-- the first requests of their lines, with one request of the log more: one that does not wait asks for no line
marked_step : (asked : Place → Bool) (a : Arrived) (rs : List Request)
    → cond a.waits (cond (not (asked a.request.place)) (a.request ∷ firsts_after (asked_with asked a) rs) (firsts_after (asked_with asked a) rs)) (firsts_after (asked_with asked a) rs)
    ≡ firsts_after asked (if_waits a ++ rs)
marked_step asked a rs = elim (cases_Bool a.waits) [
  | inl does ↦
      (λ i.
      let rest = firsts_after (λ p. asked p || (does i && is_line a.request.place p)) rs in
      cond (does i) (cond (not (asked a.request.place)) (a.request ∷ rest) rest) rest)
      ∙ ap (λ b. firsts_after asked (cond b (a.request ∷ []) [] ++ rs)) (sym does)
  | inr none ↦
      ap (λ b. cond b (cond (not (asked a.request.place)) (a.request ∷ firsts_after (asked_with asked a) rs) (firsts_after (asked_with asked a) rs)) (firsts_after (asked_with asked a) rs)) none
      ∙ ap (λ (f : Place → Bool). firsts_after f rs) (λ i p. (ap (λ b. asked p || (b && is_line a.request.place p)) none ∙ or-false (asked p)) i)
      ∙ ap (λ b. firsts_after asked (cond b (a.request ∷ []) [] ++ rs)) (sym none)
]

marked_firsts : (asked : Place → Bool) (log : List Arrived) → marked_items (all_requests log) (marks_after asked log) ≡ firsts_after asked (waiting_requests log)
unfolding waiting
marked_firsts asked [] = refl
marked_firsts asked (a ∷ log) =
    let r = a.request in
    let fresh = not (asked r.place) in
    let rest = firsts_after (asked_with asked a) (waiting_requests log) in
    marked_next a.waits fresh a (filter (λ e. is_marked e.1) (zip (all_requests log) (marks_after (asked_with asked a) log))) rest (marked_firsts (asked_with asked a) log)
    ∙ marked_step asked a (waiting_requests log)
    ∙ ap (firsts_after asked) (sym (waiting_first a log))

-- the requests that are marked are those that wait with no older one for the same line
pub marked_eligible : (log : List Arrived) → marked_items (all_requests log) (eligible_column log) ≡ first_of_lines (waiting_requests log)
marked_eligible log = ap (marked_items (all_requests log)) (eligible_is log) ∙ marked_firsts (λ p. false) log ∙ sym (firsts_are (waiting_requests log))

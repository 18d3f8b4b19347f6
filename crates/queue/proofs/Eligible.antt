-- Which requests of a log have no older one waiting for the same line.
use Rattle.std.proofs.Common.{◌≡◌, ℕ, zero, suc, ◌+◌, ◌<◌, Bool, true, false, not, ◌&&◌, ◌||◌, List, [], ◌∷◌, ◌++◌, length, map, take, get_or, refl, sym, ap, ◌∙◌, arith}
use Rattle.std.proofs.lemmas.List.{take_at, length_push, append_assoc}
use Rattle.std.specs.List.{enumerate_from}
use Rattle.std.proofs.Math.Bool.{or-false, or_assoc}
use Rattle.sim_base.specs.Places.{is_line}
use Rattle.sim_base.specs.Scheduling.{asks_for_line}
use Rattle.sim_base.specs.declared.place.Place.{Place}
use Rattle.queue.specs.declared.request_log.Arrived.{Arrived}
use Rattle.queue.specs.Marks.{is_marked}
use Rattle.sim_base.specs.Counts.{one_if}
use Rattle.queue.specs.Log.{waiting, waiting_requests, eligible_column}
use Rattle.queue.proofs.Waiting.{asks_push, asks_first}

-- the lines that are asked for once one more has arrived
abbrev pub asked_with : (Place → Bool) → Arrived → Place → Bool
asked_with asked a p = asked p || (a.waits && is_line a.request.place p)

-- the marks of requests that follow others, by which lines those asked for
abbrev pub marks_after : (Place → Bool) → List Arrived → List ℕ
marks_after asked [] = []
marks_after asked (a ∷ log) = one_if (a.waits && not (asked a.request.place)) ∷ marks_after (asked_with asked a) log

marks_from : (older log : List Arrived) (n : ℕ) → length older ≡ n
    → map (λ e. one_if (e.1.waits && not (asks_for_line e.1.request.place (waiting_requests (take e.0 (older ++ log)))))) (enumerate_from n log)
    ≡ marks_after (λ p. asks_for_line p (waiting_requests older)) log
marks_from older [] n long = refl
marks_from older (a ∷ log) n long =
    let whole : older ++ a ∷ log ≡ (older ++ a ∷ []) ++ log = sym (append_assoc older (a ∷ []) log) in
    let before : take n (older ++ a ∷ log) ≡ older = take_at older (a ∷ log) n long in
    let longer : length (older ++ a ∷ []) ≡ n + 1 = length_push older a ∙ ap (λ k. k + 1) long in
    let rest =
    ap (λ (w : List Arrived). map (λ e. one_if (e.1.waits && not (asks_for_line e.1.request.place (waiting_requests (take e.0 w))))) (enumerate_from (n + 1) log)) whole
    ∙ marks_from (older ++ a ∷ []) log (n + 1) longer
    ∙ ap (λ (f : Place → Bool). marks_after f log) (λ i p. asks_push p older a i) in
    λ i. one_if (a.waits && not (asks_for_line a.request.place (waiting_requests (before i)))) ∷ rest i

pub eligible_is : (log : List Arrived) → eligible_column log ≡ marks_after (λ p. false) log
unfolding eligible_column asks_for_line waiting
eligible_is log = marks_from [] log 0 refl

pub length-marks : (asked : Place → Bool) (log : List Arrived) → length (marks_after asked log) ≡ length log
length-marks asked [] = refl
length-marks asked (a ∷ log) = ap suc (length-marks (asked_with asked a) log)

pub length-eligible : (log : List Arrived) → length (eligible_column log) ≡ length log
length-eligible log = ap length (eligible_is log) ∙ length-marks (λ p. false) log

marked_first : (b c : Bool) → is_marked (one_if (b && c)) ≡ true → b ≡ true
marked_first true c marked = refl
marked_first false c marked = marked

marks_wait : (asked : Place → Bool) (log : List Arrived) (k : ℕ) (d : Arrived) → k < length log → is_marked (get_or (marks_after asked log) k 0) ≡ true
    → (get_or log k d).waits ≡ true
marks_wait asked [] k d within marked = absurd (omega (arith, within))
marks_wait asked (a ∷ log) zero d within marked = marked_first a.waits (not (asked a.request.place)) marked
marks_wait asked (a ∷ log) (suc k) d within marked = marks_wait (asked_with asked a) log k d (omega (arith, within)) marked

-- what is marked waits
pub marked_waits : (log : List Arrived) (k : ℕ) (d : Arrived) → k < length log → is_marked (get_or (eligible_column log) k 0) ≡ true → (get_or log k d).waits ≡ true
marked_waits log k d within marked = marks_wait (λ p. false) log k d within (ap (λ ms. is_marked (get_or ms k 0)) (sym (eligible_is log)) ∙ marked)

-- the marks of a log that goes on
pub marks-append : (asked : Place → Bool) (log more : List Arrived)
    → marks_after asked (log ++ more) ≡ marks_after asked log ++ marks_after (λ p. asked p || asks_for_line p (waiting_requests log)) more
unfolding asks_for_line waiting
marks-append asked [] more = ap (λ (f : Place → Bool). marks_after f more) (λ i p. sym (or-false (asked p)) i)
marks-append asked (a ∷ log) more =
    let step : (p : Place) → (asked_with asked a p || asks_for_line p (waiting_requests log)) ≡ (asked p || asks_for_line p (waiting_requests (a ∷ log))) =
    λ p.
    or_assoc (asked p) (a.waits && is_line a.request.place p) (asks_for_line p (waiting_requests log))
    ∙ ap (λ b. asked p || b) (sym (asks_first p a log)) in
    ap (λ ms. one_if (a.waits && not (asked a.request.place)) ∷ ms)
    (marks-append (asked_with asked a) log more ∙ ap (λ (f : Place → Bool). marks_after (asked_with asked a) log ++ marks_after f more) (λ i p. step p i))

-- the marks round a place
pub split_marks : (older later : List Arrived) (a : Arrived)
    → eligible_column (older ++ a ∷ later)
    ≡ marks_after (λ p. false) older
    ++ one_if (a.waits && not (asks_for_line a.request.place (waiting_requests older)))
    ∷ marks_after (λ p. asks_for_line p (waiting_requests older) || (a.waits && is_line a.request.place p)) later
split_marks older later a = eligible_is (older ++ a ∷ later) ∙ marks-append (λ p. false) older (a ∷ later)

-- the marks of a log and one more
pub eligible_push : (log : List Arrived) (a : Arrived)
    → eligible_column (log ++ a ∷ []) ≡ eligible_column log ++ one_if (a.waits && not (asks_for_line a.request.place (waiting_requests log))) ∷ []
eligible_push log a = split_marks log [] a ∙ ap (λ ms. ms ++ one_if (a.waits && not (asks_for_line a.request.place (waiting_requests log))) ∷ []) (sym (eligible_is log))

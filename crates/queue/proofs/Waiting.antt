-- The requests that wait in a log, and which lines they ask for.
use Rattle.std.proofs.Common.{◌≡◌, ℕ, zero, suc, ◌<◌, Bool, true, false, cond, ◌&&◌, ◌||◌, List, [], ◌∷◌, ◌++◌, length, map, filter, get_or, refl, sym, ap, ◌∙◌, arith}
use Rattle.std.specs.List.{list_any}
use Rattle.std.proofs.lemmas.List.{append_assoc, append-nil}
use Rattle.std.proofs.lemmas.List.Folds.{list_any-append}
use Rattle.std.proofs.Math.Bool.{or-false, or-true}
use Rattle.sim_base.specs.Places.{is_line}
use Rattle.sim_base.specs.Scheduling.{asks_for_line}
use Rattle.sim_base.specs.declared.message.Request.{Request}
use Rattle.sim_base.specs.declared.place.Place.{Place}
use Rattle.queue.specs.declared.request_log.Arrived.{Arrived}
use Rattle.queue.specs.Log.{absent, waiting, waiting_requests, is_for}

-- the request of one, if it waits
abbrev pub if_waits : Arrived → List Request
if_waits a = cond a.waits (a.request ∷ []) []

map-cond : (b : Bool) (a : Arrived) (rest : List Arrived) → map (λ x. x.request) (cond b (a ∷ rest) rest) ≡ cond b (a.request ∷ []) [] ++ map (λ x. x.request) rest
map-cond true a rest = refl
map-cond false a rest = refl

-- the first of a log goes first, if it waits
pub waiting_first : (a : Arrived) (log : List Arrived) → waiting_requests (a ∷ log) ≡ if_waits a ++ waiting_requests log
unfolding waiting
waiting_first a log = map-cond a.waits a (filter (λ x. x.waits) log)

pub waiting_append : (log more : List Arrived) → waiting_requests (log ++ more) ≡ waiting_requests log ++ waiting_requests more
unfolding waiting
waiting_append [] more = refl
waiting_append (a ∷ log) more =
    waiting_first a (log ++ more)
    ∙ ap (λ rest. if_waits a ++ rest) (waiting_append log more)
    ∙ sym (append_assoc (if_waits a) (waiting_requests log) (waiting_requests more))
    ∙ ap (λ rest. rest ++ waiting_requests more) (sym (waiting_first a log))

pub waiting_one : (a : Arrived) → waiting_requests (a ∷ []) ≡ if_waits a
unfolding waiting
waiting_one a = waiting_first a [] ∙ append-nil (if_waits a)

any-one : (b : Bool) (r : Request) (p : Place) → list_any (λ q. is_line q.place p) (cond b (r ∷ []) []) ≡ (b && is_line r.place p)
any-one true r p = or-false (is_line r.place p)
any-one false r p = refl

-- whether some of a log and one more ask for a line
pub asks_push : (p : Place) (older : List Arrived) (a : Arrived)
    → asks_for_line p (waiting_requests (older ++ a ∷ [])) ≡ (asks_for_line p (waiting_requests older) || (a.waits && is_line a.request.place p))
unfolding asks_for_line
asks_push p older a =
    ap (list_any (λ (q : Request). is_line q.place p)) (waiting_append older (a ∷ []) ∙ ap (λ rest. waiting_requests older ++ rest) (waiting_one a))
    ∙ list_any-append (λ q. is_line q.place p) (waiting_requests older) (if_waits a)
    ∙ ap (λ b. list_any (λ (q : Request). is_line q.place p) (waiting_requests older) || b) (any-one a.waits a.request p)

-- whether some of a log ask for a line, the first of it taken apart
pub asks_first : (p : Place) (a : Arrived) (log : List Arrived)
    → asks_for_line p (waiting_requests (a ∷ log)) ≡ ((a.waits && is_line a.request.place p) || asks_for_line p (waiting_requests log))
unfolding asks_for_line
asks_first p a log =
    ap (list_any (λ (q : Request). is_line q.place p)) (waiting_first a log)
    ∙ list_any-append (λ q. is_line q.place p) (if_waits a) (waiting_requests log)
    ∙ ap (λ b. b || list_any (λ (q : Request). is_line q.place p) (waiting_requests log)) (any-one a.waits a.request p)

-- where one of a log waits for a line, it is asked for
pub asks_some : (p : Place) (log : List Arrived) (k : ℕ) → k < length log → is_for p (get_or log k absent) ≡ true → asks_for_line p (waiting_requests log) ≡ true
asks_some p [] k within here = absurd (omega (arith, within))
asks_some p (a ∷ log) zero within here = asks_first p a log ∙ ap (λ b. b || asks_for_line p (waiting_requests log)) here
asks_some p (a ∷ log) (suc k) within here = asks_first p a log ∙ ap (λ b. is_for p a || b) (asks_some p log k (omega (arith, within)) here) ∙ or-true (is_for p a)

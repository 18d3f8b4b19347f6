-- A place in a log, and the place among those that wait.
use Rattle.std.proofs.Common.{◌≡◌, ℕ, zero, suc, ◌+◌, ◌-◌, ◌<◌, true, false, cond, List, [], ◌∷◌, ◌++◌, length, take, drop, get_or, refl, sym, ap, ◌∙◌, arith}
use Rattle.std.proofs.lemmas.List.{get_or_at, set_split, length-set, length-append, take-append-drop, drop_more}
use Rattle.std.proofs.lemmas.List.Edits.{remove-append_right}
use Rattle.std.specs.List.{remove}
use Rattle.sim_base.specs.declared.message.Request.{Request}
use Rattle.queue.specs.declared.request_log.Arrived.{Arrived}
use Rattle.queue.specs.Log.{absent, waiting_requests, all_requests, served_at, waits_at}
use Rattle.queue.proofs.Waiting.{waiting_first, waiting_append, if_waits}

-- what stands round a place of a list
pub around : {X : Type 0} (xs : List X) (i : ℕ) (d : X) → i < length xs → xs ≡ take i xs ++ get_or xs i d ∷ drop (i + 1) xs
around xs i d exists = sym (take-append-drop i xs) ∙ ap (λ ys. take i xs ++ ys) (drop_more xs i d exists)

remove_at : {X : Type 0} (xs ys : List X) (x : X) (n : ℕ) → length xs ≡ n → remove (xs ++ x ∷ ys) n ≡ xs ++ ys
remove_at xs ys x n long =
    let here : n - n ≡ 0 = omega arith in
    remove-append_right xs (x ∷ ys) n n long (omega arith) ∙ ap (λ k. xs ++ remove (x ∷ ys) k) here

-- a request without its wait
abbrev pub left_off : Arrived → Arrived
left_off a = record a { waits = false }

-- the log round a place whose request is served
pub served_around : (log : List Arrived) (place : ℕ) → place < length log
    → served_at log place ≡ take place log ++ left_off (get_or log place absent) ∷ drop (place + 1) log
served_around log place within =
    let next : suc place ≡ place + 1 = omega arith in
    set_split log place (left_off (get_or log place absent)) within ∙ ap (λ k. take place log ++ left_off (get_or log place absent) ∷ drop k log) next

waiting_split : (older later : List Arrived) (a : Arrived) → waiting_requests (older ++ a ∷ later) ≡ waiting_requests older ++ (if_waits a ++ waiting_requests later)
waiting_split older later a = waiting_append older (a ∷ later) ∙ ap (λ rest. waiting_requests older ++ rest) (waiting_first a later)

-- the requests that wait, round a place whose request waits
waiting_around : (log : List Arrived) (place : ℕ) → place < length log → waits_at log place ≡ true
    → waiting_requests log ≡ waiting_requests (take place log) ++ (get_or log place absent).request ∷ waiting_requests (drop (place + 1) log)
waiting_around log place within waits =
    ap waiting_requests (around log place absent within)
    ∙ waiting_split (take place log) (drop (place + 1) log) (get_or log place absent)
    ∙ ap (λ b. waiting_requests (take place log) ++ (cond b ((get_or log place absent).request ∷ []) [] ++ waiting_requests (drop (place + 1) log))) waits

-- the request at a place that waits is among those that wait, behind as many as wait before the place
pub waiting_at : (log : List Arrived) (place : ℕ) (d : Request) → place < length log → waits_at log place ≡ true
    → get_or (waiting_requests log) (length (waiting_requests (take place log))) d ≡ (get_or log place absent).request
waiting_at log place d within waits =
    ap (λ rs. get_or rs (length (waiting_requests (take place log))) d) (waiting_around log place within waits)
    ∙ get_or_at (waiting_requests (take place log)) (get_or log place absent).request (waiting_requests (drop (place + 1) log)) d (length (waiting_requests (take place log))) refl

pub waiting_within : (log : List Arrived) (place : ℕ) → place < length log → waits_at log place ≡ true → length (waiting_requests (take place log)) < length (waiting_requests log)
waiting_within log place within waits =
    let whole = ap length (waiting_around log place within waits) in
    let parts = length-append (waiting_requests (take place log)) ((get_or log place absent).request ∷ waiting_requests (drop (place + 1) log)) in
    omega (arith, whole, parts)

-- a request that is served no longer waits, and all others do as before
pub waiting_served : (log : List Arrived) (place : ℕ) → place < length log → waits_at log place ≡ true
    → waiting_requests (served_at log place) ≡ remove (waiting_requests log) (length (waiting_requests (take place log)))
waiting_served log place within waits =
    let older = take place log in
    let later = drop (place + 1) log in
    ap waiting_requests (served_around log place within)
    ∙ waiting_split older later (left_off (get_or log place absent))
    ∙ sym (remove_at (waiting_requests older) (waiting_requests later) (get_or log place absent).request (length (waiting_requests older)) refl)
    ∙ ap (λ rs. remove rs (length (waiting_requests older))) (sym (waiting_around log place within waits))

pub length-served : (log : List Arrived) (place : ℕ) → length (served_at log place) ≡ length log
length-served log place = length-set log place (left_off (get_or log place absent))

-- all requests are the same
pub all_served : (log : List Arrived) (place : ℕ) → all_requests (served_at log place) ≡ all_requests log
all_served [] place = refl
all_served (a ∷ log) zero = refl
all_served (a ∷ log) (suc place) = ap (λ rs. a.request ∷ rs) (all_served log place)

-- The requests that wait, as messages bring them one by one.
use Rattle.std.proofs.Common.{◌≡◌, ℕ, suc, ◌+◌, ◌<◌, ◌≤◌, List, [], ◌∷◌, ◌++◌, length, take, get_or, map, Option, Some, None, sym, ap, ◌∙◌, arith}
use Rattle.std.specs.List.{cons_option}
use Rattle.std.proofs.lemmas.List.{append-nil, append_assoc, map-append, length-append, length-map, length-take, take_more}
use Rattle.sim_base.specs.Scheduling.{request_in}
use Rattle.sim_base.specs.declared.message.Message.{Message}
use Rattle.sim_base.specs.declared.message.Request.{Request}
use Rattle.queue.specs.Log.{waiting_requests, arrived_now}
use Rattle.queue.specs.View.{QueueView}
use Rattle.channel_step.specs.Past.{carried_requests}
use Rattle.channel_step.specs.Queued.{joined_with}
use Rattle.channel_step.proofs.Logs.{waiting-with}
use Rattle.channel_step.proofs.Requests.{requests-append}

joined-twice : (q : QueueView) (xs ys : List Request) → joined_with (joined_with q xs) ys ≡ joined_with q (xs ++ ys)
joined-twice q xs ys =
    ap (λ log. record q { log = log }) (append_assoc q.log (map arrived_now xs) (map arrived_now ys) ∙ ap (λ x. q.log ++ x) (sym (map-append arrived_now xs ys)))

pub joined_none : (q : QueueView) → q ≡ joined_with q []
joined_none q = ap (λ log. record q { log = log }) (sym (append-nil q.log))

-- the requests that have joined, with one message more
pub joined_more : (q v : QueueView) (ms : List Message) (i : ℕ) (d : Message) → i < length ms → v ≡ joined_with q (carried_requests (take i ms))
    → joined_with v (carried_requests (get_or ms i d ∷ [])) ≡ joined_with q (carried_requests (take (i + 1) ms))
joined_more q v ms i d l e =
    let m = get_or ms i d in
    let f : carried_requests (take (i + 1) ms) ≡ carried_requests (take i ms) ++ carried_requests (m ∷ []) = ap carried_requests (take_more ms i d l) ∙ requests-append (take i ms) (m ∷ []) in
    ap (λ x. joined_with x (carried_requests (m ∷ []))) e ∙ joined-twice q (carried_requests (take i ms)) (carried_requests (m ∷ [])) ∙ ap (joined_with q) (sym f)

pub requests-few : (ms : List Message) → length (carried_requests ms) ≤ length ms
requests-few [] = omega arith
requests-few (m ∷ ms) = by (request_in m.payload) (requests-few ms)
  where
    by : (o : Option Request) → length (carried_requests ms) ≤ length ms → length (cons_option o (carried_requests ms)) ≤ suc (length ms)
    by None h = omega arith
    by (Some r) h = omega arith

-- there is room in the queue for one message more
pub joined_room : (q v : QueueView) (ms : List Message) (i : ℕ) → v ≡ joined_with q (carried_requests (take i ms)) → i < length ms → length (waiting_requests q.log) + length ms ≤ q.room
    → length (waiting_requests v.log) < v.room
joined_room q v ms i e l k =
    let new = carried_requests (take i ms) in
    let a : length (waiting_requests v.log) ≡ length (waiting_requests q.log) + length new =
    ap (λ (x : QueueView). length (waiting_requests x.log)) e ∙ ap length (waiting-with q.log new) ∙ length-append (waiting_requests q.log) new in
    let b : v.room ≡ q.room = ap (λ (x : QueueView). x.room) e in
    let c : length (take i ms) ≤ i = omega (arith, length-take i ms) in
    omega (arith, requests-few (take i ms))

-- there is a place in the log for one message more
pub joined_places : (q v : QueueView) (ms : List Message) (i : ℕ) → v ≡ joined_with q (carried_requests (take i ms)) → i < length ms → length q.log + length ms ≤ q.places
    → length v.log < v.places
joined_places q v ms i e l k =
    let new = carried_requests (take i ms) in
    let a : length v.log ≡ length q.log + length new =
    ap (λ (x : QueueView). length x.log) e ∙ length-append q.log (map arrived_now new) ∙ ap (λ n. length q.log + n) (length-map new arrived_now) in
    let b : v.places ≡ q.places = ap (λ (x : QueueView). x.places) e in
    let c : length (take i ms) ≤ i = omega (arith, length-take i ms) in
    omega (arith, requests-few (take i ms))

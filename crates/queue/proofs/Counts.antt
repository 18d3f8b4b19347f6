-- The requests that wait, and the writes among them, as the log changes.
use Rattle.std.proofs.Common.{◌≡◌, ℕ, ◌+◌, ◌<◌, true, cond, List, [], ◌∷◌, ◌++◌, length, take, get_or, sym, ap, ◌∙◌, arith}
use Rattle.std.proofs.lemmas.List.{length_push}
use Rattle.std.proofs.lemmas.List.Edits.{length-remove}
use Rattle.std.proofs.lemmas.List.Sums.{sum_by_push, sum_by-remove}
use Rattle.sim_base.specs.Access.{is_access}
use Rattle.sim_base.specs.declared.message.Access.TheVariants as access
use Rattle.sim_base.specs.declared.message.Request.{Request}
use Rattle.queue.specs.declared.request_log.Arrived.{Arrived}
use Rattle.queue.specs.Log.{absent, waiting_requests, arrived_now, served_at, waits_at}
use Rattle.queue.specs.Columns.{write_count}
use Rattle.queue.proofs.Counted.{requests_push}
use Rattle.queue.proofs.Places.{waiting_at, waiting_within, waiting_served}

-- one request more waits when one arrives
pub length_arrived : (log : List Arrived) (r : Request) → length (waiting_requests (log ++ arrived_now r ∷ [])) ≡ length (waiting_requests log) + 1
length_arrived log r = ap length (requests_push log r) ∙ length_push (waiting_requests log) r

pub writes_arrived : (log : List Arrived) (r : Request) → write_count (waiting_requests (log ++ arrived_now r ∷ [])) ≡ write_count (waiting_requests log) + cond (is_access access.Write r.access) 1 0
writes_arrived log r = ap write_count (requests_push log r) ∙ sum_by_push (λ x. cond (is_access access.Write x.access) 1 0) (waiting_requests log) r

-- one request less waits when one is served
pub length_served : (log : List Arrived) (place : ℕ) → place < length log → waits_at log place ≡ true → length (waiting_requests (served_at log place)) + 1 ≡ length (waiting_requests log)
length_served log place within waits =
    let below = waiting_within log place within waits in
    omega (arith, below, ap length (waiting_served log place within waits), length-remove (waiting_requests log) (length (waiting_requests (take place log))) below)

pub writes_served : (log : List Arrived) (place : ℕ) → place < length log → waits_at log place ≡ true
    → write_count (waiting_requests (served_at log place)) + cond (is_access access.Write (get_or log place absent).request.access) 1 0 ≡ write_count (waiting_requests log)
writes_served log place within waits =
    let n = length (waiting_requests (take place log)) in
    let r = (get_or log place absent).request in
    (λ i. write_count (waiting_served log place within waits i) + cond (is_access access.Write (sym (waiting_at log place r within waits) i).access) 1 0)
    ∙ sum_by-remove (λ x. cond (is_access access.Write x.access) 1 0) (waiting_requests log) n r (waiting_within log place within waits)

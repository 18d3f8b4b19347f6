-- What holds of each request of a log, or of each that waits, at a place.
use Rattle.std.proofs.Common.{◌≡◌, ℕ, zero, suc, ◌<◌, Bool, true, false, cond, List, [], ◌∷◌, length, map, filter, get_or, subst, arith}
use Rattle.std.proofs.lemmas.List.{get_or-map, length-map}
use Rattle.std.proofs.lemmas.List.Elements.{All-map, All-filter}
use Rattle.std.specs.List.{All}
use Rattle.sim_base.specs.declared.message.Request.{Request}
use Rattle.queue.specs.declared.request_log.Arrived.{Arrived}
use Rattle.queue.specs.Log.{absent, waiting, all_requests, waiting_requests}

pub request_at : (P : Request → Type 0) (log : List Arrived) (k : ℕ) → All P (all_requests log) → k < length log → P (get_or log k absent).request
request_at P log k all exists =
    subst P (get_or-map (λ (a : Arrived). a.request) log k absent absent.request exists) (all k absent.request (omega (arith, length-map log (λ (a : Arrived). a.request))))

rest_of : (P : Request → Type 0) (waits : Bool) (a : Arrived) (rest : List Arrived) → All P (map (λ x. x.request) (cond waits (a ∷ rest) rest)) → All P (map (λ x. x.request) rest)
rest_of P true a rest all = λ k d within. all (suc k) d (omega arith)
rest_of P false a rest all = all

first_of : (P : Request → Type 0) (waits : Bool) (a : Arrived) (rest : List Arrived) → waits ≡ true → All P (map (λ x. x.request) (cond waits (a ∷ rest) rest)) → P a.request
first_of P true a rest is all = all 0 a.request (omega arith)
first_of P false a rest is all = cc

pub waiting_request_at : (P : Request → Type 0) (log : List Arrived) (k : ℕ) → All P (waiting_requests log) → k < length log → (get_or log k absent).waits ≡ true → P (get_or log k absent).request
unfolding waiting
waiting_request_at P [] k all exists waits = absurd (omega arith)
waiting_request_at P (a ∷ log) zero all exists waits = first_of P a.waits a (filter (λ x. x.waits) log) waits all
waiting_request_at P (a ∷ log) (suc k) all exists waits = waiting_request_at P log k (rest_of P a.waits a (filter (λ x. x.waits) log) all) (omega arith) waits

-- what holds of all requests holds of those that wait
pub all_waiting : (P : Request → Type 0) (log : List Arrived) → All P (all_requests log) → All P (all_requests (waiting log))
unfolding waiting
all_waiting P log all =
    All-map P (λ (a : Arrived). a.request) (filter (λ a. a.waits) log)
    (All-filter (λ a. a.waits) (λ a. P a.request) log
    (λ k d exists. subst P (get_or-map (λ (a : Arrived). a.request) log k d d.request exists) (all k d.request (omega (arith, length-map log (λ (a : Arrived). a.request))))))

-- The requests that wait in a channel's log, and their marks, when some arrive.
use Rattle.std.proofs.Common.{◌≡◌, true, false, List, [], ◌∷◌, ◌++◌, length, drop, map, refl, sym, ap, subst, ◌∙◌}
use Rattle.std.specs.List.{All, AllByRecursion as Each}
use Rattle.std.proofs.Math.Seq.{drop-append_seam}
use Rattle.std.proofs.lemmas.List.{map-append}
use Rattle.std.proofs.lemmas.List.Elements.{All-from_recursion, filter-append}
use Rattle.sim_base.specs.declared.message.Request.{Request}
use Rattle.queue.specs.declared.request_log.Arrived.{Arrived}
use Rattle.queue.specs.Log.{waiting, waiting_requests, all_requests, arrived_now}
use Rattle.channel_step.specs.Queued.{activated_in}

-- requests that have just arrived wait
waiting-new : (new : List Request) → waiting (map arrived_now new) ≡ map arrived_now new
unfolding waiting
waiting-new [] = refl
waiting-new (r ∷ rs) = ap (λ x. arrived_now r ∷ x) (waiting-new rs)

waiting-joined : (log : List Arrived) (new : List Request) → waiting (log ++ map arrived_now new) ≡ waiting log ++ map arrived_now new
unfolding waiting
waiting-joined log new = filter-append (λ (a : Arrived). a.waits) log (map arrived_now new) ∙ ap (λ x. waiting log ++ x) (waiting-new new)

requests-new : (new : List Request) → map (λ (a : Arrived). a.request) (map arrived_now new) ≡ new
requests-new [] = refl
requests-new (r ∷ rs) = ap (λ x. r ∷ x) (requests-new rs)

marks-new : (new : List Request) → map (λ (a : Arrived). a.activated) (map arrived_now new) ≡ map (λ r. false) new
marks-new [] = refl
marks-new (r ∷ rs) = ap (λ x. false ∷ x) (marks-new rs)

-- the requests that wait, all, and the marks, once these have arrived
pub waiting-with : (log : List Arrived) (new : List Request) → waiting_requests (log ++ map arrived_now new) ≡ waiting_requests log ++ new
waiting-with log new =
    ap (map (λ (a : Arrived). a.request)) (waiting-joined log new)
    ∙ map-append (λ (a : Arrived). a.request) (waiting log) (map arrived_now new)
    ∙ ap (λ x. waiting_requests log ++ x) (requests-new new)

pub all-with : (log : List Arrived) (new : List Request) → all_requests (log ++ map arrived_now new) ≡ all_requests log ++ new
all-with log new = map-append (λ (a : Arrived). a.request) log (map arrived_now new) ∙ ap (λ x. all_requests log ++ x) (requests-new new)

pub marks-with : (log : List Arrived) (new : List Request) → activated_in (log ++ map arrived_now new) ≡ activated_in log ++ map (λ r. false) new
marks-with log new =
    ap (map (λ (a : Arrived). a.activated)) (waiting-joined log new)
    ∙ map-append (λ (a : Arrived). a.activated) (waiting log) (map arrived_now new)
    ∙ ap (λ x. activated_in log ++ x) (marks-new new)

new-wait : (new : List Request) → Each (λ (a : Arrived). a.waits ≡ true) (map arrived_now new)
new-wait [] = tt
new-wait (r ∷ rs) = (refl, new-wait rs)

-- each of those that have arrived waits
pub arrived-wait : (log : List Arrived) (new : List Request) → All (λ (a : Arrived). a.waits ≡ true) (drop (length log) (log ++ map arrived_now new))
arrived-wait log new =
    subst (All (λ (a : Arrived). a.waits ≡ true)) (sym (drop-append_seam log (map arrived_now new)))
    (All-from_recursion (λ (a : Arrived). a.waits ≡ true) (map arrived_now new) (new-wait new))

-- What is left of a log, and of the marks of those that wait, when one is served or an ACT is issued in its name.
use Rattle.std.proofs.Common.{◌≡◌, ℕ, zero, suc, ◌<◌, Bool, true, false, cond, ◌||◌, List, [], ◌∷◌, length, get_or, take, map, Some, sym, ap, ap₂, ◌∙◌, arith}
use Rattle.std.specs.Prelude.{slice_get}
use Rattle.std.specs.List.{All, AllByRecursion as Each}
use Rattle.std.proofs.lemmas.Bool.{true≢false}
use Rattle.std.proofs.lemmas.Option.{slice_get-get_or}
use Rattle.std.proofs.lemmas.List.Elements.{All-from_recursion, recursion_from_All}
use Rattle.std.proofs.Math.Bool.{or-false, or-true}
use Rattle.sim_base.proofs.Each.{Each-get}
use Rattle.sim_base.proofs.Ordered.{Each-weaker}
use Rattle.sim_base.specs.Scheduling.{is_source, source_of, column_command}
use Rattle.sim_base.specs.declared.message.Request.{Request}
use Rattle.sim_base.proofs.Lists.{heads, tails}
use Rattle.queue.specs.declared.request_log.Arrived.{Arrived}
use Rattle.queue.specs.Log.{absent, waiting, waiting_requests, all_requests, served_at, activated_at, waits_at}
use Rattle.queue.proofs.Places.{waiting_at, waiting_within, waiting_served}
use Rattle.channel_step.specs.Past.{IsOther, Differ}
use Rattle.channel_step.specs.Queued.{activated_in, request_at}
use Rattle.channel_step.proofs.Requests.{unserved_by, same_source, own_source}
use Rattle.channel_step.proofs.Marks.{map-agree, served-remove}

-- the request at a place is one of those that wait
pub request-waits : (log : List Arrived) (place : ℕ) → place < length log → waits_at log place ≡ true
    → slice_get (waiting_requests log) (length (waiting_requests (take place log))) ≡ Some (request_at log place)
request-waits log place l w =
    let i = length (waiting_requests (take place log)) in
    slice_get-get_or (waiting_requests log) i (request_at log place) (waiting_within log place l w) ∙ ap Some (waiting_at log place (request_at log place) l w)

-- what holds of each request that waits holds of the one at a place
pub at-waiting : (P : Request → Type 0) (log : List Arrived) (place : ℕ) → place < length log → waits_at log place ≡ true → Each P (waiting_requests log) → P (request_at log place)
at-waiting P log place l w h = Each-get P (waiting_requests log) (length (waiting_requests (take place log))) (request_at log place) (request-waits log place l w) h

-- the other requests are left when one is served
pub served-waits : (log : List Arrived) (place : ℕ) → place < length log → waits_at log place ≡ true → Differ (waiting_requests log)
    → waiting_requests (served_at log place) ≡ unserved_by (column_command (request_at log place)) (waiting_requests log)
served-waits log place l w d =
    waiting_served log place l w
    ∙ sym (served-remove (waiting_requests log) (length (waiting_requests (take place log))) (request_at log place) d (request-waits log place l w))

-- the marks of the other requests stay when one is served
pub served-marks : (g : Request → Bool) (log : List Arrived) (place : ℕ) → activated_in log ≡ map g (waiting_requests log) → activated_in (served_at log place) ≡ map g (waiting_requests (served_at log place))
unfolding waiting
served-marks g [] place h = h
served-marks g (a ∷ log) zero h = by a.waits h
  where
    by : (b : Bool) → map (λ (x : Arrived). x.activated) (cond b (a ∷ waiting log) (waiting log)) ≡ map g (map (λ (x : Arrived). x.request) (cond b (a ∷ waiting log) (waiting log)))
        → activated_in log ≡ map g (waiting_requests log)
    by true e = tails _ _ _ _ e
    by false e = e
served-marks g (a ∷ log) (suc place) h = by a.waits (served-marks g log place) h
  where
    by : (b : Bool) → (activated_in log ≡ map g (waiting_requests log) → activated_in (served_at log place) ≡ map g (waiting_requests (served_at log place)))
        → map (λ (x : Arrived). x.activated) (cond b (a ∷ waiting log) (waiting log)) ≡ map g (map (λ (x : Arrived). x.request) (cond b (a ∷ waiting log) (waiting log)))
        → map (λ (x : Arrived). x.activated) (cond b (a ∷ waiting (served_at log place)) (waiting (served_at log place)))
        ≡ map g (map (λ (x : Arrived). x.request) (cond b (a ∷ waiting (served_at log place)) (waiting (served_at log place))))
    by true later e = ap₂ (λ x xs. x ∷ xs) (heads _ _ _ _ e) (later (tails _ _ _ _ e))
    by false later e = later e

-- the request at a place that waits has its mark
pub mark-at : (g : Request → Bool) (log : List Arrived) (place : ℕ) → place < length log → waits_at log place ≡ true → activated_in log ≡ map g (waiting_requests log)
    → (get_or log place absent).activated ≡ g (request_at log place)
unfolding waiting
mark-at g [] place l w h = absurd (omega arith)
mark-at g (a ∷ log) zero l w h = by a.waits w h
  where
    by : (b : Bool) → b ≡ true → map (λ (x : Arrived). x.activated) (cond b (a ∷ waiting log) (waiting log)) ≡ map g (map (λ (x : Arrived). x.request) (cond b (a ∷ waiting log) (waiting log)))
        → a.activated ≡ g a.request
    by true w e = heads _ _ _ _ e
    by false w e = absurd (true≢false (sym w))
mark-at g (a ∷ log) (suc place) l w h = by a.waits (mark-at g log place (omega arith) w) h
  where
    by : (b : Bool) → (activated_in log ≡ map g (waiting_requests log) → (get_or log place absent).activated ≡ g (request_at log place))
        → map (λ (x : Arrived). x.activated) (cond b (a ∷ waiting log) (waiting log)) ≡ map g (map (λ (x : Arrived). x.request) (cond b (a ∷ waiting log) (waiting log)))
        → (get_or log place absent).activated ≡ g (request_at log place)
    by true later e = later (tails _ _ _ _ e)
    by false later e = later e

-- an ACT in its name marks it, and no other one
pub activated-marks : (g : Request → Bool) (log : List Arrived) (place : ℕ) → place < length log → waits_at log place ≡ true → Differ (waiting_requests log) → activated_in log ≡ map g (waiting_requests log)
    → activated_in (activated_at log place) ≡ map (λ r. g r || is_source r (source_of (request_at log place))) (waiting_requests log)
unfolding waiting
activated-marks g [] place l w d h = absurd (omega arith)
activated-marks g (a ∷ log) zero l w d h = by a.waits w d h
  where
    by : (b : Bool) → b ≡ true → Differ (map (λ (x : Arrived). x.request) (cond b (a ∷ waiting log) (waiting log)))
        → map (λ (x : Arrived). x.activated) (cond b (a ∷ waiting log) (waiting log)) ≡ map g (map (λ (x : Arrived). x.request) (cond b (a ∷ waiting log) (waiting log)))
        → map (λ (x : Arrived). x.activated) (cond b (record a { activated = true } ∷ waiting log) (waiting log))
        ≡ map (λ r. g r || is_source r (source_of a.request)) (map (λ (x : Arrived). x.request) (cond b (a ∷ waiting log) (waiting log)))
    by true w d e =
        ap₂ (λ x xs. x ∷ xs) (sym (ap (λ b. g a.request || b) (own_source a.request) ∙ or-true (g a.request)))
        (tails _ _ _ _ e
        ∙ map-agree g (λ r. g r || is_source r (source_of a.request)) (waiting_requests log)
        (Each-weaker (IsOther a.request) _ (λ r o. sym (ap (λ b. g r || b) o ∙ or-false (g r))) (waiting_requests log) d.0))
    by false w d e = absurd (true≢false (sym w))
activated-marks g (a ∷ log) (suc place) l w d h = by a.waits (activated-marks g log place (omega arith) w) d h
  where
    by : (b : Bool)
        → (Differ (waiting_requests log) → activated_in log ≡ map g (waiting_requests log)
        → activated_in (activated_at log place) ≡ map (λ r. g r || is_source r (source_of (request_at log place))) (waiting_requests log))
        → Differ (map (λ (x : Arrived). x.request) (cond b (a ∷ waiting log) (waiting log)))
        → map (λ (x : Arrived). x.activated) (cond b (a ∷ waiting log) (waiting log)) ≡ map g (map (λ (x : Arrived). x.request) (cond b (a ∷ waiting log) (waiting log)))
        → map (λ (x : Arrived). x.activated) (cond b (a ∷ waiting (activated_at log place)) (waiting (activated_at log place)))
        ≡ map (λ r. g r || is_source r (source_of (request_at log place))) (map (λ (x : Arrived). x.request) (cond b (a ∷ waiting log) (waiting log)))
    by true later d e =
        let other = same_source (request_at log place) a.request (at-waiting (IsOther a.request) log place (omega arith) w d.0) in
        ap₂ (λ x xs. x ∷ xs) (heads _ _ _ _ e ∙ sym (ap (λ b. g a.request || b) other ∙ or-false (g a.request)))
        (later d.1 (tails _ _ _ _ e))
    by false later d e = later d e

waits-each : (P : Request → Type 0) (log : List Arrived) → Each P (all_requests log) → Each P (waiting_requests log)
unfolding waiting
waits-each P [] h = tt
waits-each P (a ∷ log) h = by a.waits (waits-each P log h.1)
  where
    by : (b : Bool) → Each P (waiting_requests log) → Each P (map (λ (x : Arrived). x.request) (cond b (a ∷ waiting log) (waiting log)))
    by true rest = (h.0, rest)
    by false rest = rest

-- what holds of all holds of those that wait
pub waits-all : (P : Request → Type 0) (log : List Arrived) → All P (all_requests log) → All P (waiting_requests log)
waits-all P log h = All-from_recursion P (waiting_requests log) (waits-each P log (recursion_from_All P (all_requests log) h))

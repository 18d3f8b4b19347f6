-- The oldest request of a bank and an access asks for a row, or the first that does stands behind it.
use Rattle.std.proofs.Common.{◌≡◌, ℕ, ◌+◌, ◌<◌, Bool, true, false, ◌&&◌, eqb, List, length, get_or, Some, refl, sym, ap, ◌∙◌, arith}
use Rattle.std.proofs.lemmas.Bool.{and_parts}
use Rattle.std.proofs.lemmas.List.{get_or_default}
use Rattle.std.proofs.lemmas.List.Quantifiers.{position-Some}
use Rattle.sim_base.specs.declared.message.Access.{Access}
use Rattle.sim_base.specs.declared.message.Request.{Request}
use Rattle.queue.specs.declared.request_log.Arrived.{Arrived}
use Rattle.queue.specs.Marks.{is_marked}
use Rattle.queue.specs.Log.{absent, eligible_column}
use Rattle.queue.specs.Candidates.{asks, wants, passes, marked_requests, first_place}
use Rattle.queue.specs.Moves.{NonePassesBefore}
use Rattle.queue.proofs.MarkedRequests.{length-marked_requests}
use Rattle.queue.proofs.Searches.{here_is, none_more, none_narrower, none_before_first, found_here}
use Rattle.queue.proofs.OneBank.{wants_narrower}

-- the first request that passes a test is in the log, and passes it
pub first_asks : (test : Request → Bool) (log : List Arrived) (place : ℕ) → Some place ≡ first_place test log → (place < length log) × (test (get_or log place absent).request ≡ true)
first_asks test log place is =
    let d : Request × ℕ = (absent.request, 0) in
    let found = position-Some (passes test) (marked_requests log) place d (sym is) in
    let within : place < length log = omega (arith, found.0, length-marked_requests log) in (
      within,
      (and_parts (is_marked (get_or (eligible_column log) place 0)) (test (get_or log place absent).request) (sym (here_is test log place absent d within) ∙ found.1)).1,
    )

-- the row of a request that was read
pub row_at : (log xs : List Arrived) (place : ℕ) (e f : Arrived) (row : ℕ) → place < length log → xs ≡ log → eqb (get_or log place f).request.place.row row ≡ eqb (get_or xs place e).request.place.row row
row_at log xs place e f row within same = ap (λ (a : Arrived). eqb a.request.place.row row) (get_or_default log place f e within ∙ ap (λ ys. get_or ys place e) (sym same))

both : (m a b : Bool) → (m && a) ≡ true → b ≡ true → (m && (a && b)) ≡ true
both true true b is other = other
both true false b is other = is
both false a b is other = is

none : (m a b : Bool) → b ≡ false → (m && (a && b)) ≡ false
none true true b is = is
none true false b is = refl
none false a b is = refl

pub hit_here : (log xs : List Arrived) (place bank row : ℕ) (access : Access) (e : Arrived) → place < length log → xs ≡ log → Some place ≡ first_place (asks bank access) log
    → eqb (get_or xs place e).request.place.row row ≡ true → Some place ≡ first_place (wants bank access (Some row)) log
hit_here log xs place bank row access e within same is asked =
    let any = asks bank access in
    let test = wants bank access (Some row) in
    found_here test log place within (none_narrower test any log place (wants_narrower bank access row) (none_before_first any log place is))
    (λ d.
    let r = (get_or log place absent).request in
    let m = is_marked (get_or (eligible_column log) place 0) in
    let passed : passes any (get_or (marked_requests log) place d) ≡ true = (position-Some (passes any) (marked_requests log) place d (sym is)).1 in
    here_is test log place absent d within
    ∙ both m (any r) (eqb r.place.row row) (sym (here_is any log place absent d within) ∙ passed) (row_at log xs place e absent row within same ∙ asked))

pub hit_behind : (log : List Arrived) (place bank row : ℕ) (access : Access) → Some place ≡ first_place (asks bank access) log
    → (place < length log → eqb (get_or log place absent).request.place.row row ≡ false) → NonePassesBefore (wants bank access (Some row)) log (place + 1)
hit_behind log place bank row access is other =
    let any = asks bank access in
    let test = wants bank access (Some row) in
    none_more test log place (none_narrower test any log place (wants_narrower bank access row) (none_before_first any log place is))
    (λ d within.
    let r = (get_or log place absent).request in
    let m = is_marked (get_or (eligible_column log) place 0) in
    here_is test log place absent d within ∙ none m (any r) (eqb r.place.row row) (other within))

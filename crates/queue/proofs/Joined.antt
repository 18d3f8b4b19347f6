-- The candidates of one bank, with one request more.
use Rattle.std.proofs.Common.{◌≡◌, ℕ, Bool, true, false, not, cond, ◌&&◌, List, [], ◌∷◌, ◌++◌, length, Option, Some, None, refl, sym, ap, ◌∙◌, inl, inr}
use Rattle.std.proofs.lemmas.Bool.{cases_Bool, cond-true, cond-false}
use Rattle.sim_base.specs.declared.message.Access.{Access}
use Rattle.sim_base.specs.Rules.{is_row}
use Rattle.sim_base.specs.Scheduling.{asks_for_line, or_else}
use Rattle.sim_base.specs.declared.message.Request.{Request}
use Rattle.queue.specs.declared.request_log.Arrived.{Arrived}
use Rattle.queue.specs.Log.{waiting_requests}
use Rattle.queue.specs.declared.bank_candidates.entry.AccessCandidates.{AccessCandidates}
use Rattle.queue.specs.Candidates.{asks, hits, first_place, AreFirst}
use Rattle.queue.proofs.MarkedRequests.{first_push}

-- a request that follows these may be served
abbrev pub may_follow : List Arrived → Arrived → Bool
may_follow older a = a.waits && not (asks_for_line a.request.place (waiting_requests older))

else_none : (o : Option ℕ) → or_else o None ≡ o
else_none (Some k) = refl
else_none None = refl

first_kept : (test : Request → Bool) (older : List Arrived) (a : Arrived) → (may_follow older a && test a.request) ≡ false → first_place test older ≡ first_place test (older ++ a ∷ [])
first_kept test older a fails =
    sym (first_push test older a ∙ ap (λ b. or_else (first_place test older) (cond b (Some (length older)) None)) fails ∙ else_none (first_place test older))

first_joined : (test : Request → Bool) (older : List Arrived) (a : Arrived) (place : ℕ) → place ≡ length older → (may_follow older a && test a.request) ≡ true
    → or_else (first_place test older) (Some place) ≡ first_place test (older ++ a ∷ [])
first_joined test older a place long is =
    ap (λ n. or_else (first_place test older) (Some n)) long
    ∙ sym (first_push test older a ∙ ap (λ b. or_else (first_place test older) (cond b (Some (length older)) None)) is)

never_more : (m a b : Bool) → (m && a) ≡ false → (m && (a && b)) ≡ false
never_more true a b none = ap (λ t. t && b) none
never_more false a b none = refl

-- candidates that a new request is not for
pub access_kept : (older : List Arrived) (a : Arrived) (bank : ℕ) (access : Access) (row : Option ℕ) (h : AccessCandidates) → (may_follow older a && asks bank access a.request) ≡ false
    → AreFirst older bank access row h → AreFirst (older ++ a ∷ []) bank access row h
access_kept older a bank access row h none first = record {
  oldest_is = first.oldest_is ∙ first_kept (asks bank access) older a none;
  hit_is = first.hit_is ∙ first_kept (hits bank access row) older a (never_more (may_follow older a) (asks bank access a.request) (is_row a.request.place.row row) none);
}

-- candidates that it is for
pub access_joined : (older : List Arrived) (a : Arrived) (bank place : ℕ) (access : Access) (row : Option ℕ) (hit : Bool) (h j : AccessCandidates) → place ≡ length older
    → may_follow older a ≡ true → asks bank access a.request ≡ true → hit ≡ is_row a.request.place.row row → j.oldest ≡ or_else h.oldest (Some place)
    → j.hit ≡ cond hit (or_else h.hit (Some place)) h.hit → AreFirst older bank access row h → AreFirst (older ++ a ∷ []) bank access row j
access_joined older a bank place access row hit h j long follows is hit_is oldest_joined hit_joined first =
    let may : (b : Bool) → (may_follow older a && b) ≡ b = λ b. ap (λ t. t && b) follows in
    let wants : hits bank access row a.request ≡ hit = ap (λ t. t && is_row a.request.place.row row) is ∙ sym hit_is in
    record {
      oldest_is =
          oldest_joined ∙ ap (λ o. or_else o (Some place)) first.oldest_is
          ∙ first_joined (asks bank access) older a place long (may (asks bank access a.request) ∙ is);
      hit_is = elim (cases_Bool hit) [
        | inl on ↦
            hit_joined ∙ cond-true hit (or_else h.hit (Some place)) h.hit on ∙ ap (λ o. or_else o (Some place)) first.hit_is
            ∙ first_joined (hits bank access row) older a place long (may (hits bank access row a.request) ∙ wants ∙ on)
        | inr off ↦
            hit_joined ∙ cond-false hit (or_else h.hit (Some place)) h.hit off ∙ first.hit_is
            ∙ first_kept (hits bank access row) older a (may (hits bank access row a.request) ∙ wants ∙ off)
      ];
    }

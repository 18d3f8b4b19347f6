-- The first request that may be served and passes a test, with one request more.
use Rattle.std.proofs.Common.{◌≡◌, ℕ, ◌+◌, Bool, true, false, not, cond, ◌&&◌, List, [], ◌∷◌, ◌++◌, length, min, Some, None, refl, sym, ap, ◌∙◌, arith}
use Rattle.std.proofs.lemmas.List.{length-map, map-append}
use Rattle.std.proofs.lemmas.Slice.Zip.{length-zip}
use Rattle.std.specs.List.{position, zip}
use Rattle.std.specs.Option.{option_map}
use Rattle.sim_base.specs.Scheduling.{asks_for_line, or_else}
use Rattle.sim_base.specs.declared.message.Request.{Request}
use Rattle.queue.specs.declared.request_log.Arrived.{Arrived}
use Rattle.sim_base.specs.Counts.{one_if}
use Rattle.queue.specs.Log.{all_requests, waiting_requests, eligible_column}
use Rattle.queue.proofs.Eligible.{marks_after, marks-append, eligible_is, length-eligible}
use Rattle.queue.specs.Candidates.{passes, marked_requests, first_place}
use Rattle.queue.specs.Moves.{before, NonePassesBefore}
use Rattle.queue.proofs.Positions.{position-cons, position-append, fails_before}

pub zip-append : {X Y : Type 0} (xs ys : List X) (ms ns : List Y) → length ms ≡ length xs → zip (xs ++ ys) (ms ++ ns) ≡ zip xs ms ++ zip ys ns
zip-append [] ys [] ns long = refl
zip-append [] ys (m ∷ ms) ns long = absurd (omega arith)
zip-append (x ∷ xs) ys [] ns long = absurd (omega arith)
zip-append (x ∷ xs) ys (m ∷ ms) ns long = ap (λ es. (x, m) ∷ es) (zip-append xs ys ms ns (omega arith))

same_long : (log : List Arrived) → length (eligible_column log) ≡ length (all_requests log)
same_long log = omega (arith, length-eligible log, length-map log (λ (a : Arrived). a.request))

pub zip_long : {X Y : Type 0} (xs : List X) (ms : List Y) → length ms ≡ length xs → length (zip xs ms) ≡ length xs
zip_long xs ms long = let least : min (length xs) (length ms) ≡ length xs = omega arith in length-zip xs ms ∙ least

pub length-marked_requests : (log : List Arrived) → length (marked_requests log) ≡ length log
length-marked_requests log = zip_long (all_requests log) (eligible_column log) (same_long log) ∙ length-map log (λ (a : Arrived). a.request)

passes_mark : (test : Request → Bool) (r : Request) (b : Bool) → passes test (r, one_if b) ≡ (b && test r)
passes_mark test r true = refl
passes_mark test r false = refl

-- a log that goes on
pub eligible_append : (older more : List Arrived)
    → eligible_column (older ++ more) ≡ eligible_column older ++ marks_after (λ p. asks_for_line p (waiting_requests older)) more
eligible_append older more =
    eligible_is (older ++ more) ∙ marks-append (λ p. false) older more
    ∙ ap (λ ms. ms ++ marks_after (λ p. asks_for_line p (waiting_requests older)) more) (sym (eligible_is older))

pub entries_append : (older more : List Arrived)
    → marked_requests (older ++ more) ≡ marked_requests older ++ zip (all_requests more) (marks_after (λ p. asks_for_line p (waiting_requests older)) more)
entries_append older more =
    (λ i. zip (map-append (λ (a : Arrived). a.request) older more i) (eligible_append older more i))
    ∙ zip-append (all_requests older) (all_requests more) (eligible_column older) (marks_after (λ p. asks_for_line p (waiting_requests older)) more) (same_long older)

-- a list of one
one_place : (test : Request → Bool) (r : Request) (b : Bool) (n : ℕ)
    → option_map (λ k. n + k) (position (passes test) ((r, one_if b) ∷ [])) ≡ cond (b && test r) (Some n) None
one_place test r b n =
    let here : n + 0 ≡ n = omega arith in
    let next : (t : Bool) → option_map (λ k. n + k) (cond t (Some 0) None) ≡ cond t (Some n) None = λ t. elim t as (λ u. option_map (λ k. n + k) (cond u (Some 0) None) ≡ cond u (Some n) None) [
      | true ↦ ap Some here
      | false ↦ refl
    ] in
    ap (option_map (λ k. n + k)) (position-cons (passes test) (r, one_if b) [] ∙ ap (λ t. cond t (Some 0) None) (passes_mark test r b)) ∙ next (b && test r)

-- with one request more at the end
pub first_push : (test : Request → Bool) (older : List Arrived) (a : Arrived)
    → first_place test (older ++ a ∷ [])
    ≡ or_else (first_place test older) (cond ((a.waits && not (asks_for_line a.request.place (waiting_requests older))) && test a.request) (Some (length older)) None)
first_push test older a =
    let b = a.waits && not (asks_for_line a.request.place (waiting_requests older)) in
    ap (position (passes test)) (entries_append older (a ∷ []))
    ∙ position-append (passes test) (marked_requests older) ((a.request, one_if b) ∷ [])
    ∙ ap (or_else (first_place test older))
    (one_place test a.request b (length (marked_requests older)) ∙ ap (λ n. cond (b && test a.request) (Some n) None) (length-marked_requests older))

-- none before a place
pub none_before : (test : Request → Bool) (log : List Arrived) (n : ℕ) → before n (first_place test log) ≡ None → NonePassesBefore test log n
none_before test log n none k d sooner exists = fails_before (passes test) (marked_requests log) n none k d sooner (omega (arith, length-marked_requests log))

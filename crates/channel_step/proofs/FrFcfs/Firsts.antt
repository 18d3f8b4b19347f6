-- The first request that may be served and passes a test, and the requests that are found among those that go.
use Rattle.std.proofs.Common.{◌≡◌, ℕ, suc, ◌<◌, Bool, true, false, cond, ◌&&◌, ◌||◌, List, [], ◌∷◌, length, map, get_or, Option, Some, None, refl, sym, ap, ◌∙◌, arith}
use Rattle.std.proofs.lemmas.Bool.{and_parts}
use Rattle.std.proofs.lemmas.List.{length-map}
use Rattle.std.proofs.lemmas.List.Elements.{All-head, All-tail}
use Rattle.std.proofs.lemmas.List.Quantifiers.{position-Some}
use Rattle.std.proofs.lemmas.Option.{slice_get-get_or}
use Rattle.std.proofs.lemmas.Slice.Zip.{get_or-zip}
use Rattle.std.specs.List.{filter, find, zip, list_any, position, slice_get, All}
use Rattle.std.specs.Option.{is_some, option_map, option_and_then}
use Rattle.sim_base.specs.declared.message.Request.{Request}
use Rattle.sim_base.specs.Scheduling.{first_of_lines}
use Rattle.queue.specs.declared.request_log.Arrived.{Arrived}
use Rattle.queue.specs.Marks.{is_marked}
use Rattle.queue.specs.Log.{waiting_requests, all_requests, waits_at, eligible_column, absent}
use Rattle.queue.specs.Columns.{marked_items}
use Rattle.queue.proofs.Eligible.{length-eligible, marked_waits}
use Rattle.queue.specs.Candidates.{passes, marked_requests, first_place}
use Rattle.sim_base.specs.Earlier.{earlier}
use Rattle.queue.proofs.MarkedRequests.{length-marked_requests}
use Rattle.queue.proofs.Positions.{position-cons, position-either, first_none}
use Rattle.queue.proofs.Searches.{none_everywhere}
use Rattle.queue.proofs.Firsts.{marked_eligible}
use Rattle.channel_step.specs.declared.fr_fcfs.accesses.Accesses.{Accesses}
use Rattle.channel_step.specs.FrFcfs.Offers.{going, is_of}

zipped : (p q : Request → Bool) (P : Request → Type 0) (rs : List Request) (ms : List ℕ) → All P rs → ((r : Request) → P r → p r ≡ q r)
    → position (passes p) (zip rs ms) ≡ position (passes q) (zip rs ms)
zipped p q P [] ms all same = refl
zipped p q P (r ∷ rs) [] all same = refl
zipped p q P (r ∷ rs) (m ∷ ms) all same =
    position-cons (passes p) (r, m) (zip rs ms)
    ∙ (λ i. cond (is_marked m && same r (All-head P r rs all) i) (Some 0) (option_map suc (zipped p q P rs ms (All-tail P r rs all) same i)))
    ∙ sym (position-cons (passes q) (r, m) (zip rs ms))

-- tests that agree on all requests
pub same_among : (p q : Request → Bool) (P : Request → Type 0) (log : List Arrived) → All P (all_requests log) → ((r : Request) → P r → p r ≡ q r) → first_place p log ≡ first_place q log
same_among p q P log all same = zipped p q P (all_requests log) (eligible_column log) all same

or_split : (m a b : Bool) → (m && (a || b)) ≡ ((m && a) || (m && b))
or_split true a b = refl
or_split false a b = refl

-- a test that is one of two
pub either_among : (p q t : Request → Bool) (P : Request → Type 0) (log : List Arrived) → All P (all_requests log) → ((r : Request) → P r → p r ≡ (q r || t r))
    → first_place p log ≡ earlier (first_place q log) (first_place t log)
either_among p q t P log all same =
    same_among p (λ r. q r || t r) P log all same
    ∙ position-either (passes (λ r. q r || t r)) (passes q) (passes t) (marked_requests log) (λ e. or_split (is_marked e.1) (q e.0) (t e.0))

-- a test under a condition
pub place_if : (b : Bool) (test : Request → Bool) (log : List Arrived) → first_place (λ r. b && test r) log ≡ cond b (first_place test log) None
place_if true test log = refl
place_if false test log = sym (none_everywhere (λ r. false) log (λ r. refl))

unless_next : (m p q h : Bool) → (m && h) ≡ false → (h ≡ false → p ≡ q) → (m && p) ≡ (m && q)
unless_next true p q h none same = same none
unless_next false p q h none same = refl

zipped_unless : (p q h : Request → Bool) (P : Request → Type 0) (rs : List Request) (ms : List ℕ) → position (passes h) (zip rs ms) ≡ None → All P rs
    → ((r : Request) → P r → h r ≡ false → p r ≡ q r) → position (passes p) (zip rs ms) ≡ position (passes q) (zip rs ms)
zipped_unless p q h P [] ms none all same = refl
zipped_unless p q h P (r ∷ rs) [] none all same = refl
zipped_unless p q h P (r ∷ rs) (m ∷ ms) none all same =
    let parts = first_none (is_marked m && h r) (position (passes h) (zip rs ms)) (sym (position-cons (passes h) (r, m) (zip rs ms)) ∙ none) in
    let candidate = unless_next (is_marked m) (p r) (q r) (h r) parts.0 (same r (All-head P r rs all)) in
    position-cons (passes p) (r, m) (zip rs ms)
    ∙ (λ i. cond (candidate i) (Some 0) (option_map suc (zipped_unless p q h P rs ms parts.1 (All-tail P r rs all) same i)))
    ∙ sym (position-cons (passes q) (r, m) (zip rs ms))

-- tests that agree wherever a third one fails, which none passes
pub same_unless : (p q h : Request → Bool) (P : Request → Type 0) (log : List Arrived) → first_place h log ≡ None → All P (all_requests log)
    → ((r : Request) → P r → h r ≡ false → p r ≡ q r) → first_place p log ≡ first_place q log
same_unless p q h P log none all same = zipped_unless p q h P (all_requests log) (eligible_column log) none all same

get_next : (b : Bool) (r : Request) (rs : List Request) (o : Option ℕ) → option_and_then (slice_get (r ∷ rs)) (cond b (Some 0) (option_map suc o)) ≡ cond b (Some r) (option_and_then (slice_get rs) o)
get_next true r rs o = refl
get_next false r rs None = refl
get_next false r rs (Some k) = refl

find_next : (m q : Bool) (p : Request → Bool) (t : Request → Bool) (r : Request) (n : ℕ) (rest : List (Request × ℕ)) → t r ≡ q
    → find p (filter t (map (λ e. e.0) (cond m ((r, n) ∷ rest) rest))) ≡ cond (m && (q && p r)) (Some r) (find p (filter t (map (λ e. e.0) rest)))
find_next true true p t r n rest is = ap (λ b. find p (cond b (r ∷ filter t (map (λ e. e.0) rest)) (filter t (map (λ e. e.0) rest)))) is
find_next true false p t r n rest is = ap (λ b. find p (cond b (r ∷ filter t (map (λ e. e.0) rest)) (filter t (map (λ e. e.0) rest)))) is
find_next false q p t r n rest is = refl

find_zipped : (p t : Request → Bool) (rs : List Request) (ms : List ℕ)
    → find p (filter t (marked_items rs ms)) ≡ option_and_then (slice_get rs) (position (passes (λ r. t r && p r)) (zip rs ms))
find_zipped p t [] ms = refl
find_zipped p t (r ∷ rs) [] = refl
find_zipped p t (r ∷ rs) (m ∷ ms) =
    let test = λ (x : Request). t x && p x in
    find_next (is_marked m) (t r) p t r m (filter (λ e. is_marked e.1) (zip rs ms)) refl
    ∙ ap (cond (is_marked m && (t r && p r)) (Some r)) (find_zipped p t rs ms)
    ∙ sym (get_next (is_marked m && (t r && p r)) r rs (position (passes test) (zip rs ms)))
    ∙ ap (option_and_then (slice_get (r ∷ rs))) (sym (position-cons (passes test) (r, m) (zip rs ms)))

-- the first request among those that go that passes a test
pub find_going : (p : Request → Bool) (accesses : Accesses) (log : List Arrived)
    → find p (going accesses log) ≡ option_and_then (slice_get (all_requests log)) (first_place (λ r. is_of accesses r && p r) log)
find_going p accesses log =
    ap (λ xs. find p (filter (is_of accesses) xs)) (sym (marked_eligible log)) ∙ find_zipped p (is_of accesses) (all_requests log) (eligible_column log)

some_next : (b : Bool) (o : Option ℕ) → is_some (cond b (Some 0) (option_map suc o)) ≡ (b || is_some o)
some_next true o = refl
some_next false None = refl
some_next false (Some k) = refl

any_next : (m q : Bool) (p : Request → Bool) (t : Request → Bool) (r : Request) (n : ℕ) (rest : List (Request × ℕ)) → t r ≡ q
    → list_any p (filter t (map (λ e. e.0) (cond m ((r, n) ∷ rest) rest))) ≡ ((m && (q && p r)) || list_any p (filter t (map (λ e. e.0) rest)))
any_next true true p t r n rest is = ap (λ b. list_any p (cond b (r ∷ filter t (map (λ e. e.0) rest)) (filter t (map (λ e. e.0) rest)))) is
any_next true false p t r n rest is = ap (λ b. list_any p (cond b (r ∷ filter t (map (λ e. e.0) rest)) (filter t (map (λ e. e.0) rest)))) is
any_next false q p t r n rest is = refl

any_zipped : (p t : Request → Bool) (rs : List Request) (ms : List ℕ)
    → list_any p (filter t (marked_items rs ms)) ≡ is_some (position (passes (λ r. t r && p r)) (zip rs ms))
any_zipped p t [] ms = refl
any_zipped p t (r ∷ rs) [] = refl
any_zipped p t (r ∷ rs) (m ∷ ms) =
    let test = λ (x : Request). t x && p x in
    any_next (is_marked m) (t r) p t r m (filter (λ e. is_marked e.1) (zip rs ms)) refl
    ∙ ap (λ b. (is_marked m && (t r && p r)) || b) (any_zipped p t rs ms)
    ∙ sym (some_next (is_marked m && (t r && p r)) (position (passes test) (zip rs ms)))
    ∙ ap is_some (sym (position-cons (passes test) (r, m) (zip rs ms)))

-- whether some request among those that go passes a test
pub any_going : (p : Request → Bool) (accesses : Accesses) (log : List Arrived) → list_any p (going accesses log) ≡ is_some (first_place (λ r. is_of accesses r && p r) log)
any_going p accesses log =
    ap (λ xs. list_any p (filter (is_of accesses) xs)) (sym (marked_eligible log)) ∙ any_zipped p (is_of accesses) (all_requests log) (eligible_column log)

-- whether some request of a kind may be served
pub some_filtered : (t : Request → Bool) (log : List Arrived) → is_some (first_place t log) ≡ list_any (λ r. true) (filter t (first_of_lines (waiting_requests log)))
some_filtered t log =
    same_test
    ∙ sym (any_zipped (λ r. true) t (all_requests log) (eligible_column log))
    ∙ ap (λ xs. list_any (λ r. true) (filter t xs)) (marked_eligible log)
  where
    with_true : (b : Bool) → b ≡ (b && true)
    with_true true = refl
    with_true false = refl

    same_test : is_some (first_place t log) ≡ is_some (position (passes (λ r. t r && true)) (zip (all_requests log) (eligible_column log)))
    same_test = λ i. is_some (position (λ e. is_marked e.1 && with_true (t e.0) i) (zip (all_requests log) (eligible_column log)))

-- what is found passes the test
pub first_passes : (test : Request → Bool) (log : List Arrived) (place : ℕ) (r : Request) → first_place test log ≡ Some place → slice_get (all_requests log) place ≡ Some r → test r ≡ true
first_passes test log place r is there =
    let found = position-Some (passes test) (marked_requests log) place (absent.request, 0) is in
    let within : place < length log = omega (arith, found.0, length-marked_requests log) in
    let in_requests : place < length (all_requests log) = omega (arith, within, length-map log (λ (a : Arrived). a.request)) in
    let marked = get_or-zip (all_requests log) (eligible_column log) place (absent.request, 0) in_requests (omega (arith, within, length-eligible log)) in
    let passed = sym (ap (passes test) marked) ∙ found.1 in
    let same : Some (get_or (all_requests log) place absent.request) ≡ Some r = sym (slice_get-get_or (all_requests log) place absent.request in_requests) ∙ there in
    let same_request : get_or (all_requests log) place absent.request ≡ r = cc in
    ap test (sym same_request) ∙ (and_parts (is_marked (get_or (eligible_column log) place 0)) (test (get_or (all_requests log) place absent.request)) passed).1

-- what is found waits
pub first_waits : (test : Request → Bool) (log : List Arrived) (place : ℕ) → first_place test log ≡ Some place → waits_at log place ≡ true
first_waits test log place is =
    let found = position-Some (passes test) (marked_requests log) place (absent.request, 0) is in
    let within : place < length log = omega (arith, found.0, length-marked_requests log) in
    let there =
    get_or-zip (all_requests log) (eligible_column log) place (absent.request, 0) (omega (arith, within, length-map log (λ (a : Arrived). a.request))) (omega (arith, within, length-eligible log)) in
    let passed = sym (ap (passes test) there) ∙ found.1 in
    marked_waits log place absent within (and_parts (is_marked (get_or (eligible_column log) place 0)) (test (get_or (all_requests log) place absent.request)) passed).0

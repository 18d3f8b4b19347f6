-- Searches for the first request that may be served and passes a test.
use Rattle.std.proofs.Common.{◌≡◌, ℕ, ◌+◌, ◌<◌, ◌≤◌, Bool, true, false, ◌&&◌, List, length, get_or, Some, None, refl, sym, ap, subst, ◌∙◌, inl, inr, arith}
use Rattle.std.proofs.lemmas.Bool.{cases_lt}
use Rattle.std.proofs.lemmas.List.{get_or_default, get_or-map, length-map}
use Rattle.std.proofs.lemmas.Slice.Zip.{get_or-zip}
use Rattle.std.specs.List.{All}
use Rattle.sim_base.specs.declared.message.Request.{Request}
use Rattle.queue.specs.declared.request_log.Arrived.{Arrived}
use Rattle.queue.specs.Marks.{is_marked}
use Rattle.queue.specs.Log.{absent, all_requests, waiting_requests, eligible_column}
use Rattle.queue.proofs.Eligible.{length-eligible, marked_waits}
use Rattle.queue.specs.Candidates.{passes, marked_requests, first_place}
use Rattle.queue.specs.Moves.{before, NonePassesBefore}
use Rattle.queue.proofs.Positions.{position_here, position_none, before_past}
use Rattle.queue.proofs.MarkedRequests.{length-marked_requests, none_before}
use Rattle.queue.proofs.Waits.{waiting_request_at}

-- what is tested at a place
pub here_is : (test : Request → Bool) (log : List Arrived) (place : ℕ) (a : Arrived) (d : Request × ℕ) → place < length log
    → passes test (get_or (marked_requests log) place d) ≡ (is_marked (get_or (eligible_column log) place 0) && test (get_or log place a).request)
here_is test log place a d within =
    let long : place < length (eligible_column log) = omega (arith, length-eligible log) in
    let all : place < length (all_requests log) = omega (arith, length-map log (λ (x : Arrived). x.request)) in
    let request : get_or (all_requests log) place d.0 ≡ (get_or log place a).request = get_or-map (λ (x : Arrived). x.request) log place a d.0 within in
    let marked : get_or (eligible_column log) place d.1 ≡ get_or (eligible_column log) place 0 = get_or_default (eligible_column log) place d.1 0 long in
    ap (passes test) (get_or-zip (all_requests log) (eligible_column log) place d all long) ∙ (λ i. is_marked (marked i) && test (request i))

-- no request before a place passes a test, nor does the one at the place
pub none_more : (test : Request → Bool) (log : List Arrived) (place : ℕ) → NonePassesBefore test log place
    → ((d : Request × ℕ) → place < length log → passes test (get_or (marked_requests log) place d) ≡ false) → NonePassesBefore test log (place + 1)
none_more test log place fails here k d below exists = elim (cases_lt k place) [
  | inl sooner ↦ fails k d sooner exists
  | inr late ↦ let same : place ≡ k = omega arith in subst (λ n. passes test (get_or (marked_requests log) n d) ≡ false) same (here d (omega arith))
]

pub found_here : (test : Request → Bool) (log : List Arrived) (place : ℕ) → place < length log → NonePassesBefore test log place
    → ((d : Request × ℕ) → passes test (get_or (marked_requests log) place d) ≡ true) → Some place ≡ first_place test log
found_here test log place within fails here =
    sym (position_here (passes test) (marked_requests log) place (omega (arith, length-marked_requests log)) (λ k d sooner exists. fails k d sooner (omega (arith, length-marked_requests log))) here)

pub found_none : (test : Request → Bool) (log : List Arrived) (place : ℕ) → length log ≤ place → NonePassesBefore test log place → None ≡ first_place test log
found_none test log place all fails =
    sym (position_none (passes test) (marked_requests log) (λ k d exists. fails k d (omega (arith, length-marked_requests log)) (omega (arith, length-marked_requests log))))

pub and_weaker : (m a b : Bool) → (b ≡ false → a ≡ false) → (m && b) ≡ false → (m && a) ≡ false
and_weaker true a b weaker none = weaker none
and_weaker false a b weaker none = refl

-- none passes a test that asks for more
pub none_narrower : (p q : Request → Bool) (log : List Arrived) (n : ℕ) → ((x : Request) → q x ≡ false → p x ≡ false) → NonePassesBefore q log n → NonePassesBefore p log n
none_narrower p q log n weaker fails k d sooner exists =
    let e = get_or (marked_requests log) k d in and_weaker (is_marked e.1) (p e.0) (q e.0) (weaker e.0) (fails k d sooner exists)

pub none_before_first : (test : Request → Bool) (log : List Arrived) (n : ℕ) → Some n ≡ first_place test log → NonePassesBefore test log n
none_before_first test log n is = none_before test log n (subst (λ o. before n o ≡ None) is (before_past n n (omega arith)))

-- where none passes a test, none passes one that asks for more
pub none_narrower_all : (p q : Request → Bool) (log : List Arrived) → ((x : Request) → q x ≡ false → p x ≡ false) → None ≡ first_place q log → None ≡ first_place p log
none_narrower_all p q log weaker is =
    found_none p log (length log) (omega arith)
    (none_narrower p q log (length log) weaker (none_before q log (length log) (subst (λ o. before (length log) o ≡ None) is refl)))

-- whether a request at a place may be served and passes a test, where the test was made of the request that was read
-- there
pub tested : (test : Request → Bool) (log xs : List Arrived) (place : ℕ) (e : Arrived) (wanted : Bool) (d : Request × ℕ) → place < length log → xs ≡ log
    → wanted ≡ test (get_or xs place e).request → passes test (get_or (marked_requests log) place d) ≡ (is_marked (get_or (eligible_column log) place 0) && wanted)
tested test log xs place e wanted d within same is =
    here_is test log place e d within
    ∙ ap (λ b. is_marked (get_or (eligible_column log) place 0) && b) (ap (λ ys. test (get_or ys place e).request) (sym same) ∙ sym is)

-- where no request that waits passes a test, none that may be served does
pub none_waits : (test : Request → Bool) (log : List Arrived) → All (λ r. test r ≡ false) (waiting_requests log) → None ≡ first_place test log
none_waits test log fails =
    found_none test log (length log) (omega arith)
    (λ k d sooner exists.
    let a = get_or log k absent in
    let m = is_marked (get_or (eligible_column log) k 0) in
    here_is test log k absent d exists ∙ unserved m (test a.request) (λ marked. waiting_request_at (λ r. test r ≡ false) log k fails exists (marked_waits log k absent exists marked)))
  where
    unserved : (m t : Bool) → (m ≡ true → t ≡ false) → (m && t) ≡ false
    unserved true t fails = fails refl
    unserved false t fails = refl

pub none_everywhere : (test : Request → Bool) (log : List Arrived) → ((x : Request) → test x ≡ false) → None ≡ first_place test log
none_everywhere test log fails = found_none test log (length log) (omega arith) (λ k d sooner exists. let e = get_or (marked_requests log) k d in ap (λ b. is_marked e.1 && b) (fails e.0) ∙ never (is_marked e.1))
  where
    never : (t : Bool) → (t && false) ≡ false
    never true = refl
    never false = refl

-- Counters of the requests of each bank and access.
use Rattle.std.proofs.Common.{◌≡◌, ℕ, zero, suc, ◌+◌, ◌-◌, ◌*◌, ◌^◌, ◌<◌, ◌≤◌, min, Bool, true, false, cond, eqb, List, [], ◌∷◌, ◌++◌, length, get_or, set, take, None, refl, sym, ap, subst, ◌∙◌, inl, inr, arith, get_or-set_same, get_or-set_other}
use Rattle.std.proofs.lemmas.Bool.{cases_Bool, eq-eqb, eqb-true, eqb-false, true≢false, false_from_ne_true}
use Rattle.std.proofs.lemmas.List.{length-set}
use Rattle.std.proofs.lemmas.List.Sums.{sum_by-cons, sum_by_push, sum_by-remove, count_by-le-length}
use Rattle.std.specs.List.{remove}
use Rattle.sim_base.specs.declared.message.Access.{Access}
use Rattle.sim_base.specs.declared.message.Access.TheVariants as access
use Rattle.sim_base.specs.declared.message.Request.{Request}
use Rattle.queue.specs.declared.request_log.Arrived.{Arrived}
use Rattle.queue.specs.Log.{absent, waiting_requests, served_at, waits_at}
use Rattle.queue.proofs.Places.{waiting_at, waiting_within, waiting_served}
use Rattle.queue.specs.Candidates.{asks, access_number, access_number_of, access_count, first_place}
use Rattle.queue.proofs.OneBank.{wants_access}
use Rattle.queue.proofs.Searches.{none_waits}

-- each counter says how many requests ask for its bank and access
abbrev pub AreCounted : List ℕ → List Request → Type 0
AreCounted counts requests = (number : ℕ) → number < length counts → get_or counts number 0 ≡ access_count number requests

-- whether a counter counts a request
abbrev counts_it : ℕ → Request → ℕ
counts_it number r = cond (eqb (access_number_of r) number) 1 0

pub one_if : (b : Bool) → b ≡ true → cond {A = ℕ} b 1 0 ≡ 1
one_if b holds = ap (λ t. cond {A = ℕ} t 1 0) holds

pub none_if : (b : Bool) → b ≡ false → cond {A = ℕ} b 1 0 ≡ 0
none_if b fails = ap (λ t. cond {A = ℕ} t 1 0) fails

changed : (counts : List ℕ) (rs others : List Request) (r : Request) (value : ℕ) → AreCounted counts rs → access_number_of r < length counts
    → ((k : ℕ) → eqb (access_number_of r) k ≡ false → access_count k others ≡ access_count k rs) → value ≡ access_count (access_number_of r) others → AreCounted (set counts (access_number_of r) value) others
changed counts rs others r value counted below same value_is k within = elim (cases_Bool (eqb (access_number_of r) k)) [
  | inl here ↦
      let k_is : k ≡ access_number_of r = sym (eqb-true (access_number_of r) k here) in
      ap (λ j. get_or (set counts (access_number_of r) value) j 0) k_is ∙ get_or-set_same counts (access_number_of r) value 0 below ∙ value_is ∙ ap (λ j. access_count j others) (sym k_is)
  | inr apart ↦
      get_or-set_other counts (access_number_of r) k value 0 (λ e. eqb-false (access_number_of r) k apart (sym e))
      ∙ counted k (omega (arith, within, length-set counts (access_number_of r) value))
      ∙ sym (same k apart)
]

-- the counters of banks and accesses, with one request more
pub counted_push : (counts : List ℕ) (rs : List Request) (r : Request) (value : ℕ) → AreCounted counts rs → access_number_of r < length counts → length rs < 2 ^ 16 - 1
    → value ≡ min (get_or counts (access_number_of r) 0 + 1) 65535 → AreCounted (set counts (access_number_of r) value) (rs ++ r ∷ [])
counted_push counts rs r value counted below short value_is =
    let own = access_number_of r in
    let step : (k : ℕ) → access_count k (rs ++ r ∷ []) ≡ access_count k rs + counts_it k r = λ k. sum_by_push (counts_it k) rs r in
    let one : counts_it own r ≡ 1 = one_if (eqb own own) (eq-eqb own own refl) in
    let few : access_count own rs ≤ length rs = count_by-le-length (λ x. eqb (access_number_of x) own) rs in
    changed counts rs (rs ++ r ∷ []) r value counted below
    (λ k apart.
    let none : counts_it k r ≡ 0 = none_if (eqb own k) apart in
    omega (arith, step k, none))
    (omega (arith, step own, one, few, value_is, counted own below))

-- the counters of banks and accesses, with one request less
pub counted_removed : (counts : List ℕ) (rs : List Request) (place : ℕ) (r : Request) (value : ℕ) → AreCounted counts rs → access_number_of r < length counts → place < length rs
    → r ≡ get_or rs place r → value ≡ get_or counts (access_number_of r) 0 - 1 → AreCounted (set counts (access_number_of r) value) (remove rs place)
counted_removed counts rs place r value counted below exists here value_is =
    let own = access_number_of r in
    let step : (k : ℕ) → access_count k (remove rs place) + counts_it k r ≡ access_count k rs =
    λ k. (λ i. access_count k (remove rs place) + counts_it k (here i)) ∙ sum_by-remove (counts_it k) rs place r exists in
    let one : counts_it own r ≡ 1 = one_if (eqb own own) (eq-eqb own own refl) in
    changed counts rs (remove rs place) r value counted below
    (λ k apart.
    let none : counts_it k r ≡ 0 = none_if (eqb own k) apart in
    omega (arith, step k, none))
    (omega (arith, step own, one, value_is, counted own below))

apart_first : (number : ℕ) (r : Request) (rs : List Request) → access_count number (r ∷ rs) ≡ 0 → (eqb (access_number_of r) number ≡ false) × (access_count number rs ≡ 0)
apart_first number r rs none =
    let counted : access_count number (r ∷ rs) ≡ counts_it number r + access_count number rs = sum_by-cons (counts_it number) r rs in
    elim (cases_Bool (eqb (access_number_of r) number)) [
      | inl same ↦
          let one : counts_it number r ≡ 1 = one_if (eqb (access_number_of r) number) same in
          absurd (omega (arith, counted, one, none))
      | inr apart ↦ (apart, omega (arith, counted, none))
    ]

-- where a counter counts none, no request asks for its bank and access
pub none_asks : (number : ℕ) (rs : List Request) → access_count number rs ≡ 0 → (k : ℕ) (d : Request) → k < length rs → eqb (access_number_of (get_or rs k d)) number ≡ false
none_asks number [] none k d exists = absurd (omega arith)
none_asks number (r ∷ rs) none zero d exists = (apart_first number r rs none).0
none_asks number (r ∷ rs) none (suc k) d exists = none_asks number rs (apart_first number r rs none).1 k d (omega arith)

-- where a counter counts none, its bank and access have no candidate
pub no_first : (log : List Arrived) (bank : ℕ) (access : Access) → access_count (access_number bank access) (waiting_requests log) ≡ 0 → None ≡ first_place (asks bank access) log
no_first log bank access none =
    none_waits (asks bank access) log
    (λ k d exists.
    let r = get_or (waiting_requests log) k d in
    false_from_ne_true (asks bank access r) (λ is. true≢false (sym (wants_access bank access None r is) ∙ none_asks (access_number bank access) (waiting_requests log) none k d exists)))

-- the requests that wait, without the one that was served
pub counted_served : (counts : List ℕ) (log : List Arrived) (place : ℕ) (value : ℕ) → AreCounted counts (waiting_requests log) → place < length log → waits_at log place ≡ true
    → access_number_of (get_or log place absent).request < length counts → value ≡ get_or counts (access_number_of (get_or log place absent).request) 0 - 1
    → AreCounted (set counts (access_number_of (get_or log place absent).request) value) (waiting_requests (served_at log place))
counted_served counts log place value counted within waits below value_is =
    let r = (get_or log place absent).request in
    let older = length (waiting_requests (take place log)) in
    subst (AreCounted (set counts (access_number_of r) value)) (sym (waiting_served log place within waits))
    (counted_removed counts (waiting_requests log) older r value counted below (waiting_within log place within waits) (sym (waiting_at log place r within waits)) value_is)

pub number_below : (bank banks : ℕ) (access : Access) → bank < banks → access_number bank access < 2 * banks
number_below bank banks access.Write exists = omega arith
number_below bank banks access.Read exists = omega arith

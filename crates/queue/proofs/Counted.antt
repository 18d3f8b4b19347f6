-- Counters of the requests for some lines, or for some rows.
use Rattle.std.proofs.Common.{◌≡◌, ℕ, suc, ◌+◌, ◌<◌, ◌≤◌, Bool, true, false, cond, eqb, ◌||◌, ◌&&◌, ◌==◌, List, [], ◌∷◌, ◌++◌, length, get_or, set, ◌-◌, refl, sym, ap, ◌∙◌, inl, inr, arith}
use Rattle.std.proofs.lemmas.Bool.{cases_Bool, eq-eqb, eqb-true, eqb-false, and_from, false≢true}
use Rattle.std.specs.Prelude.{All}
use Rattle.std.proofs.lemmas.List.{length-set, get_or-set_same, get_or-set_other}
use Rattle.std.proofs.lemmas.List.Sums.{sum_by-cons, sum_by_push, sum_by-remove, count_by-le-length, length-filter}
use Rattle.std.proofs.lemmas.List.{length-map}
use Rattle.std.proofs.lemmas.Slice.Zip.{length-zip}
use mir.Val.{bool_byte}
use Rattle.std.specs.List.{list_any, remove, zip}
use Rattle.sim_base.specs.Places.{is_line}
use Rattle.sim_base.specs.Scheduling.{asks_for_line}
use Rattle.sim_base.specs.Access.{is_access}
use Rattle.sim_base.proofs.Accesses.{is_access-own}
use Rattle.sim_base.specs.declared.message.Access.{Access}
use Rattle.sim_base.specs.declared.message.Access.TheVariants as access
use Rattle.sim_base.specs.declared.message.Request.{Request}
use Rattle.sim_base.specs.declared.place.Place.{Place}
use Rattle.queue.specs.declared.request_log.Arrived.{Arrived}
use Rattle.queue.specs.Log.{arrived_now, waiting, waiting_requests, eligible_column}
use Rattle.queue.specs.Columns.{line_counter, counter_of_line, counted_by, AreCounted, is_blocked, blocked_count, bank_number, asks_for_row}
use Rattle.queue.proofs.SameLine.{line_same}
use Rattle.queue.proofs.Waiting.{waiting_append, waiting_one}
use Rattle.queue.proofs.Eligible.{length-eligible}
use Rattle.queue.proofs.BankCandidatesCounted.{one_if, none_if}

-- whether a counter counts a request
abbrev counts_it : (Request → ℕ) → ℕ → Request → ℕ
counts_it counter_of counter r = cond (eqb (counter_of r) counter) 1 0

none_counted : (mask : ℕ) (place : Place) (rs : List Request) → counted_by (counter_of_line mask) rs (line_counter mask place) ≡ 0 → list_any (λ q. is_line q.place place) rs ≡ false
none_counted mask place [] none = refl
none_counted mask place (r ∷ rs) none =
    let counter = line_counter mask place in
    let counter_of = counter_of_line mask in
    let counted : counted_by counter_of (r ∷ rs) counter ≡ counts_it counter_of counter r + counted_by counter_of rs counter = sum_by-cons (counts_it counter_of counter) r rs in
    elim (cases_Bool (is_line r.place place)) [
      | inl same ↦
          let one : counts_it counter_of counter r ≡ 1 = one_if (eqb (counter_of r) counter) (eq-eqb (counter_of r) counter (ap (line_counter mask) (line_same r.place place same))) in
          absurd (omega (arith, counted, one, none))
      | inr apart ↦ ap (λ b. b || list_any (λ (q : Request). is_line q.place place) rs) apart ∙ none_counted mask place rs (omega (arith, counted, none))
    ]

-- where the counter for a line counts none, no request asks for it
pub none_asks : (mask : ℕ) (counts : List ℕ) (rs : List Request) (place : Place) → AreCounted (counter_of_line mask) counts rs → line_counter mask place < length counts
    → get_or counts (line_counter mask place) 0 ≡ 0 → asks_for_line place rs ≡ false
unfolding asks_for_line
none_asks mask counts rs place counted below none = none_counted mask place rs (sym (counted (line_counter mask place) below) ∙ none)

changed : (counter_of : Request → ℕ) (counts : List ℕ) (rs others : List Request) (r : Request) (counter value : ℕ) → AreCounted counter_of counts rs → counter ≡ counter_of r → counter < length counts
    → ((k : ℕ) → eqb (counter_of r) k ≡ false → counted_by counter_of others k ≡ counted_by counter_of rs k) → value ≡ counted_by counter_of others counter
    → AreCounted counter_of (set counts counter value) others
changed counter_of counts rs others r counter value counted counter_is below same value_is k within = elim (cases_Bool (eqb (counter_of r) k)) [
  | inl here ↦
      let k_is : k ≡ counter = sym (eqb-true (counter_of r) k here) ∙ sym counter_is in
      ap (λ j. get_or (set counts counter value) j 0) k_is ∙ get_or-set_same counts counter value 0 below ∙ value_is ∙ ap (counted_by counter_of others) (sym k_is)
  | inr apart ↦
      get_or-set_other counts counter k value 0 (λ e. eqb-false (counter_of r) k apart (sym counter_is ∙ sym e))
      ∙ counted k (omega (arith, within, length-set counts counter value))
      ∙ sym (same k apart)
]

-- the counters of lines or rows, with one request more
pub counted_push : (counter_of : Request → ℕ) (counts : List ℕ) (rs more : List Request) (r : Request) (counter value : ℕ) → AreCounted counter_of counts rs → counter ≡ counter_of r → counter < length counts
    → more ≡ rs ++ r ∷ [] → value ≡ get_or counts counter 0 + 1 → AreCounted counter_of (set counts counter value) more
counted_push counter_of counts rs more r counter value counted counter_is below more_is value_is =
    let step : (k : ℕ) → counted_by counter_of more k ≡ counted_by counter_of rs k + counts_it counter_of k r = λ k. ap (λ xs. counted_by counter_of xs k) more_is ∙ sum_by_push (counts_it counter_of k) rs r in
    let one : counts_it counter_of counter r ≡ 1 = one_if (eqb (counter_of r) counter) (eq-eqb (counter_of r) counter (sym counter_is)) in
    changed counter_of counts rs more r counter value counted counter_is below
    (λ k apart.
    let none : counts_it counter_of k r ≡ 0 = none_if (eqb (counter_of r) k) apart in
    omega (arith, step k, none))
    (omega (arith, step counter, one, value_is, counted counter below))

removed_step : (counter_of : Request → ℕ) (k n : ℕ) (rs fewer : List Request) (r : Request) → n < length rs → r ≡ get_or rs n r → fewer ≡ remove rs n
    → counted_by counter_of fewer k + counts_it counter_of k r ≡ counted_by counter_of rs k
removed_step counter_of k n rs fewer r exists here fewer_is =
    (λ i. counted_by counter_of (fewer_is i) k + counts_it counter_of k (here i)) ∙ sum_by-remove (counts_it counter_of k) rs n r exists

-- the counters of lines or rows, with one request less
pub counted_removed : (counter_of : Request → ℕ) (n : ℕ) (counts : List ℕ) (rs fewer : List Request) (r : Request) (counter value : ℕ) → AreCounted counter_of counts rs → counter ≡ counter_of r
    → counter < length counts → n < length rs → r ≡ get_or rs n r → fewer ≡ remove rs n → value ≡ get_or counts counter 0 - 1 → AreCounted counter_of (set counts counter value) fewer
counted_removed counter_of n counts rs fewer r counter value counted counter_is below exists here fewer_is value_is =
    let step : (k : ℕ) → counted_by counter_of fewer k + counts_it counter_of k r ≡ counted_by counter_of rs k = λ k. removed_step counter_of k n rs fewer r exists here fewer_is in
    let one : counts_it counter_of counter r ≡ 1 = one_if (eqb (counter_of r) counter) (eq-eqb (counter_of r) counter (sym counter_is)) in
    changed counter_of counts rs fewer r counter value counted counter_is below
    (λ k apart.
    let none : counts_it counter_of k r ≡ 0 = none_if (eqb (counter_of r) k) apart in
    omega (arith, step k, none))
    (omega (arith, step counter, one, value_is, counted counter below))

-- the counter of a request counts it
pub some_counted : (counter_of : Request → ℕ) (n : ℕ) (counts : List ℕ) (rs : List Request) (r : Request) (counter : ℕ) → AreCounted counter_of counts rs → counter ≡ counter_of r → counter < length counts
    → n < length rs → r ≡ get_or rs n r → 1 ≤ get_or counts counter 0
some_counted counter_of n counts rs r counter counted counter_is below exists here =
    let step : counted_by counter_of (remove rs n) counter + counts_it counter_of counter r ≡ counted_by counter_of rs counter = removed_step counter_of counter n rs (remove rs n) r exists here refl in
    let one : counts_it counter_of counter r ≡ 1 = one_if (eqb (counter_of r) counter) (eq-eqb (counter_of r) counter (sym counter_is)) in
    omega (arith, step, one, counted counter below)

-- no counter counts more requests than there are
pub few_counted : (counter_of : Request → ℕ) (counts : List ℕ) (rs : List Request) (counter : ℕ) → AreCounted counter_of counts rs → counter < length counts → get_or counts counter 0 ≤ length rs
few_counted counter_of counts rs counter counted below =
    omega (arith, counted counter below, count_by-le-length (λ (r : Request). eqb (counter_of r) counter) rs)

-- a request that arrives waits behind all others
pub requests_push : (log : List Arrived) (r : Request) → waiting_requests (log ++ arrived_now r ∷ []) ≡ waiting_requests log ++ r ∷ []
requests_push log r = waiting_append log (arrived_now r ∷ []) ∙ ap (λ rs. waiting_requests log ++ rs) (waiting_one (arrived_now r))

waiting_few : (log : List Arrived) → length (waiting log) ≤ length log
unfolding waiting
waiting_few log = omega (arith, length-filter (λ (a : Arrived). a.waits) log, count_by-le-length (λ (a : Arrived). a.waits) log)

-- no more wait than have arrived
pub requests_few : (log : List Arrived) → length (waiting_requests log) ≤ length log
requests_few log = omega (arith, length-map (waiting log) (λ (a : Arrived). a.request), waiting_few log)

-- no more are blocked than have arrived
pub blocked_few : (log : List Arrived) → blocked_count log ≤ length log
blocked_few log = omega (arith, count_by-le-length is_blocked (zip log (eligible_column log)), length-zip log (eligible_column log), length-eligible log)

pub byte_is : (b : Bool) → bool_byte b ≡ cond b 1 0
byte_is true = refl
byte_is false = refl

-- a request for a line asks for its row
asks_its_row : (place : Place) (r : Request) → is_line r.place place ≡ true → asks_for_row (bank_number place) r.access place.row r ≡ true
asks_its_row place r same =
    let place_is : r.place ≡ place = line_same r.place place same in
    let bank = bank_number r.place == bank_number place in
    and_from (bank && is_access r.access r.access) (r.place.row == place.row)
    (and_from bank (is_access r.access r.access) (eq-eqb (bank_number r.place) (bank_number place) (ap bank_number place_is)) (is_access-own r.access))
    (eq-eqb r.place.row place.row (ap (λ (p : Place). p.row) place_is))

-- a request for a line asks for none of its rows, to read or to write: there is none
neither : (place : Place) (r : Request) (w : Access) → r.access ≡ w → asks_for_row (bank_number place) access.Read place.row r ≡ false
    → asks_for_row (bank_number place) access.Write place.row r ≡ false → is_line r.place place ≡ false
neither place r w access_is no_read no_write = elim (cases_Bool (is_line r.place place)) [
  | inl same ↦ absurd (of_kind w (ap (λ a. asks_for_row (bank_number place) a place.row r) (sym access_is) ∙ asks_its_row place r same))
  | inr apart ↦ apart
]
  where
    of_kind : (a : Access) → asks_for_row (bank_number place) a place.row r ≡ true → ⊥
    of_kind access.Read asks = false≢true (sym no_read ∙ asks)
    of_kind access.Write asks = false≢true (sym no_write ∙ asks)

none_of_line : (place : Place) (rs : List Request) → All (λ r. asks_for_row (bank_number place) access.Read place.row r ≡ false) rs
    → All (λ r. asks_for_row (bank_number place) access.Write place.row r ≡ false) rs → list_any (λ q. is_line q.place place) rs ≡ false
none_of_line place [] no_read no_write = refl
none_of_line place (r ∷ rs) no_read no_write =
    let first : 0 < length (r ∷ rs) = omega arith in
    ap (λ b. b || list_any (λ (q : Request). is_line q.place place) rs) (neither place r r.access refl (no_read 0 r first) (no_write 0 r first))
    ∙ none_of_line place rs (λ k d below. no_read (suc k) d (omega (arith, below))) (λ k d below. no_write (suc k) d (omega (arith, below)))

-- where no request asks for the row of a place, to read or to write, none asks for its line
pub no_row_no_line : (place : Place) (rs : List Request) → All (λ r. asks_for_row (bank_number place) access.Read place.row r ≡ false) rs
    → All (λ r. asks_for_row (bank_number place) access.Write place.row r ≡ false) rs → asks_for_line place rs ≡ false
unfolding asks_for_line
no_row_no_line place rs no_read no_write = none_of_line place rs no_read no_write

-- The first request that passes a test, among those of the banks below a number.
use Rattle.std.proofs.Common.{◌≡◌, ℕ, zero, suc, ◌+◌, ◌<◌, ◌≤◌, Bool, true, false, not, ◌&&◌, ◌||◌, ltb, eqb, List, [], ◌∷◌, length, Option, Some, None, refl, sym, ap, ◌∙◌, inl, inr, arith}
use Rattle.std.proofs.Math.Bool.{or-false}
use Rattle.std.proofs.lemmas.Bool.{and_parts, not-true, cases_lt, cases_eq, lt-ltb, le-ltb, eq-eqb, ne_eqb}
use Rattle.std.proofs.lemmas.List.{length-map}
use Rattle.std.specs.List.{All, slice_get}
use Rattle.std.specs.Option.{is_some, option_map, option_and_then, IfSome}
use Rattle.sim_base.specs.declared.config.Config.{Config}
use Rattle.sim_base.specs.declared.command.IssuedCommand.{IssuedCommand}
use Rattle.sim_base.specs.declared.message.Request.{Request}
use Rattle.sim_base.specs.Rules.{is_legal}
use Rattle.sim_base.specs.Scheduling.{needed, is_column_command, is_withheld, or_else, first_ready, ready_hit, ready_row}
use Rattle.queue.specs.declared.request_log.Arrived.{Arrived}
use Rattle.queue.specs.Log.{all_requests, waits_at}
use Rattle.queue.specs.Columns.{bank_number}
use Rattle.queue.specs.View.{QueueView}
use Rattle.queue.specs.Candidates.{first_place}
use Rattle.sim_base.specs.Earlier.{earlier}
use Rattle.queue.proofs.Searches.{none_everywhere}
use Rattle.channel_step.specs.declared.fr_fcfs.offers.Offer.{Offer}
use Rattle.channel_step.specs.FrFcfs.Requests.{candidates_of}
use Rattle.channel_step.specs.declared.fr_fcfs.accesses.Accesses.{Accesses}
use Rattle.channel_step.specs.FrFcfs.Offers.{going, is_of, hits_now, row_requests_now, IsAt, IsBest, IsFirstReady}
use Rattle.channel_step.proofs.FrFcfs.Firsts.{same_among, either_among, find_going, first_waits, first_passes}

-- the first request of the banks below a number that passes a test
abbrev pub place_below : ℕ → (Request → Bool) → List Arrived → Option ℕ
place_below n test log = first_place (λ r. ltb (bank_number r.place) n && test r) log

pub none_below : (test : Request → Bool) (log : List Arrived) → place_below 0 test log ≡ None
none_below test log =
    sym (none_everywhere (λ r. ltb (bank_number r.place) 0 && test r) log (λ r. ap (λ b. b && test r) (le-ltb (bank_number r.place) 0 (omega arith))))

more_below : (k n : ℕ) (t : Bool) → (ltb k (n + 1) && t) ≡ ((ltb k n && t) || (eqb k n && t))
more_below k n t = elim (cases_eq k n) [
  | inl same ↦
      ap (λ b. b && t) (lt-ltb k (n + 1) (omega arith))
      ∙ (λ i. ((sym (le-ltb k n (omega arith))) i && t) || ((sym (eq-eqb k n same)) i && t))
  | inr apart ↦ elim (cases_lt k n) [
    | inl below ↦
        ap (λ b. b && t) (lt-ltb k (n + 1) (omega arith) ∙ sym (lt-ltb k n below))
        ∙ sym (or-false (ltb k n && t))
        ∙ ap (λ b. (ltb k n && t) || (b && t)) (sym (ne_eqb k n apart))
    | inr over ↦
        ap (λ b. b && t) (le-ltb k (n + 1) (beyond over apart))
        ∙ (λ i. ((sym (le-ltb k n over)) i && t) || ((sym (ne_eqb k n apart)) i && t))
  ]
]
  where
    beyond : n ≤ k → (k ≡ n → ⊥) → n + 1 ≤ k
    beyond over apart = elim (cases_lt n k) [
      | inl less ↦ omega arith
      | inr more ↦ absurd (apart (omega arith))
    ]

-- the first request of the banks below a number that passes a test, with one bank more
pub place_more : (n : ℕ) (test : Request → Bool) (log : List Arrived)
    → place_below (n + 1) test log ≡ earlier (place_below n test log) (first_place (λ r. eqb (bank_number r.place) n && test r) log)
place_more n test log =
    either_among (λ r. ltb (bank_number r.place) (n + 1) && test r) (λ r. ltb (bank_number r.place) n && test r) (λ r. eqb (bank_number r.place) n && test r) (λ r. Unit {0}) log
    (λ k d exists. tt) (λ r in_all. more_below (bank_number r.place) n (test r))

-- all banks
pub place_all : (n : ℕ) (test : Request → Bool) (log : List Arrived) → All (λ r. bank_number r.place < n) (all_requests log) → place_below n test log ≡ first_place test log
place_all n test log within =
    same_among (λ r. ltb (bank_number r.place) n && test r) test (λ r. bank_number r.place < n) log within (λ r below. ap (λ b. b && test r) (lt-ltb (bank_number r.place) n below))

-- the command of the first request that is ready, by the places
pub ready_by_places : (s : Config) (history : List IssuedCommand) (log : List Arrived) (accesses : Accesses) (cycle : ℕ)
    → first_ready s history cycle (going accesses log)
    ≡ option_map (needed history)
    (or_else (option_and_then (slice_get (all_requests log)) (first_place (hits_now s history accesses cycle) log))
    (option_and_then (slice_get (all_requests log)) (first_place (row_requests_now s history log accesses cycle) log)))
unfolding first_ready
ready_by_places s history log accesses cycle =
    λ i. option_map (needed history)
    (or_else (find_going (ready_hit s history cycle) accesses log i) (find_going (ready_row s history cycle (going accesses log)) accesses log i))

none_ready : (history : List IssuedCommand) (requests : List Request) (a b : Option ℕ) → a ≡ None → b ≡ None
    → option_map (needed history) (or_else (option_and_then (slice_get requests) a) (option_and_then (slice_get requests) b)) ≡ None
none_ready history requests a b none_a none_b = λ i. option_map (needed history) (or_else (option_and_then (slice_get requests) (none_a i)) (option_and_then (slice_get requests) (none_b i)))

some_at : {X : Type 0} (xs : List X) (k : ℕ) → k < length xs → is_some (slice_get xs k) ≡ true
some_at [] k within = absurd (omega arith)
some_at (x ∷ xs) zero within = refl
some_at (x ∷ xs) (suc k) within = some_at xs k (omega arith)

first_some : {X : Type 0} (a b : Option X) → is_some a ≡ true → or_else a b ≡ a
first_some (Some x) b some = refl
first_some None b some = cc

ready_at : (history : List IssuedCommand) (requests : List Request) (hit : Bool) (a b : Option ℕ) (place : ℕ) → place < length requests → IsAt hit a b place
    → option_map (needed history) (or_else (option_and_then (slice_get requests) a) (option_and_then (slice_get requests) b)) ≡ option_map (needed history) (slice_get requests place)
ready_at history requests true a b place within is =
    ap (λ o. option_map (needed history) (or_else (option_and_then (slice_get requests) o) (option_and_then (slice_get requests) b))) is
    ∙ ap (option_map (needed history)) (first_some (slice_get requests place) (option_and_then (slice_get requests) b) (some_at requests place within))
ready_at history requests false a b place within is = λ i. option_map (needed history) (or_else (option_and_then (slice_get requests) (is.0 i)) (option_and_then (slice_get requests) (is.1 i)))

-- a request at a place needs some command
pub command_there : (history : List IssuedCommand) (log : List Arrived) (place : ℕ) → place < length log → is_some (option_map (needed history) (slice_get (all_requests log) place)) ≡ true
command_there history log place within =
    some_mapped (needed history) (slice_get (all_requests log) place) (some_at (all_requests log) place (omega (arith, length-map log (λ (a : Arrived). a.request), within)))
  where
    some_mapped : {X Y : Type 0} (f : X → Y) (o : Option X) → is_some o ≡ true → is_some (option_map f o) ≡ true
    some_mapped f None some = some
    some_mapped f (Some x) some = refl

-- an offer is for a request that waits
offer_waits : (log : List Arrived) (first second : Request → Bool) (hit : Bool) (place : ℕ) → IsAt hit (first_place first log) (first_place second log) place → waits_at log place ≡ true
offer_waits log first second true place is = first_waits first log place is
offer_waits log first second false place is = first_waits second log place is.1

-- what the request of a row hit needs is a column command, and what that of another offer needs is none
offer_class : (s : Config) (history : List IssuedCommand) (log : List Arrived) (accesses : Accesses) (hit : Bool) (cycle place : ℕ) (r : Request)
    → IsAt hit (first_place (hits_now s history accesses cycle) log) (first_place (row_requests_now s history log accesses cycle) log) place
    → slice_get (all_requests log) place ≡ Some r → is_column_command (needed history r) ≡ hit
unfolding ready_hit ready_row
offer_class s history log accesses true cycle place r is there =
    let column = is_column_command (needed history r) in
    let passed = first_passes (hits_now s history accesses cycle) log place r is there in
    (and_parts column (is_legal s history cycle (needed history r)) (and_parts (is_of accesses r) (column && is_legal s history cycle (needed history r)) passed).1).0
offer_class s history log accesses false cycle place r is there =
    let column = is_column_command (needed history r) in
    let legal = is_legal s history cycle (needed history r) in
    let free = not (is_withheld history (going accesses log) (needed history r)) in
    let passed = first_passes (row_requests_now s history log accesses cycle) log place r is.1 there in
    not-true column (and_parts (not column) legal (and_parts (not column && legal) free (and_parts (is_of accesses r) (not column && legal && free) passed).1).0).0

-- the offer that goes first of all is what the first request needs that is ready
pub first_ready_is : (s : Config) (history : List IssuedCommand) (queue : QueueView) (accesses : Accesses) (now : ℕ) (o : Option Offer) → candidates_of s queue ≡ going accesses queue.log
    → IfSome o (λ x. x.place < length queue.log)
    → IsBest now (λ cycle. first_place (hits_now s history accesses cycle) queue.log) (λ cycle. first_place (row_requests_now s history queue.log accesses cycle) queue.log) o
    → IsFirstReady s history queue now o
first_ready_is s history queue accesses now None cands within best = λ cycle late.
    let none = best cycle late in
    let log = queue.log in
    ap (first_ready s history cycle) cands
    ∙ ready_by_places s history log accesses cycle
    ∙ none_ready history (all_requests log) (first_place (hits_now s history accesses cycle) log) (first_place (row_requests_now s history log accesses cycle) log) none.0 none.1
first_ready_is s history queue accesses now (Some o) cands within best =
    let log = queue.log in
    record {
      from_now = best.from_now;
      none_before = λ cycle late sooner.
          let none = best.none_before cycle late sooner in
          ap (first_ready s history cycle) cands
          ∙ ready_by_places s history log accesses cycle
          ∙ none_ready history (all_requests log) (first_place (hits_now s history accesses cycle) log) (first_place (row_requests_now s history log accesses cycle) log) none.0 none.1;
      then_is =
          ap (first_ready s history o.cycle) cands
          ∙ ready_by_places s history log accesses o.cycle
          ∙ ready_at history (all_requests log) o.hit (first_place (hits_now s history accesses o.cycle) log) (first_place (row_requests_now s history log accesses o.cycle) log) o.place
          (omega (arith, length-map log (λ (a : Arrived). a.request), within)) best.then_is;
      waits = offer_waits log (hits_now s history accesses o.cycle) (row_requests_now s history log accesses o.cycle) o.hit o.place best.then_is;
      hit_is = λ r there. offer_class s history log accesses o.hit o.cycle o.place r best.then_is there;
    }

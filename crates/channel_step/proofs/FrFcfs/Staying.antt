-- What is chosen, with requests that arrive and do not go before it.
use Rattle.std.proofs.Common.{◌≡◌, ℕ, ◌+◌, ◌<◌, Bool, true, false, not, cond, ◌&&◌, ◌||◌, ◌≤◌, eq-eqb, List, [], ◌∷◌, ◌++◌, map, length, drop, slice_index_or, Option, Some, None, refl, sym, ap, subst, ◌∙◌, arith}
use Rattle.std.proofs.lemmas.Bool.{and_parts, lt-leb, not-true}
use Rattle.std.proofs.lemmas.List.{map-append, length-map, get_or-map, get_or-drop, length-drop}
use Rattle.std.proofs.lemmas.Option.{slice_get-get_or}
use Rattle.std.proofs.lemmas.List.Elements.{All-nil, All-cons, All-head, All-tail, All-map, All-filter, filter-append}
use Rattle.std.proofs.lemmas.List.Folds.{find-append, list_any-append}
use Rattle.std.specs.List.{All, AllWithin, filter, find, zip, slice_get}
use Rattle.std.specs.Option.{option_map, option_or}
use Rattle.std.proofs.Math.Bool.{or-false, and-false}
use Rattle.sim_base.specs.declared.config.Config.{Config}
use Rattle.sim_base.specs.declared.command.Command.{Command}
use Rattle.sim_base.specs.declared.command.Command.TheVariants.{Prea, Ref}
use Rattle.sim_base.specs.declared.command.IssuedCommand.{IssuedCommand}
use Rattle.sim_base.specs.declared.command.Kind.{Kind}
use Rattle.sim_base.specs.declared.message.Request.{Request}
use Rattle.sim_base.specs.declared.place.BankId.{BankId}
use Rattle.sim_base.specs.Places.{bank_in, is_bank, bank_at}
use Rattle.sim_base.specs.Rules.{is_legal, open_row, is_row, kind_of, has_open_bank}
use Rattle.sim_base.specs.Scheduling.{needed, is_column_command, has_hit, is_withheld, is_row_hit, ready_hit, ready_row, or_else, first_ready, first_of_lines, asks_for_line, choice_between, lowest_due, refresh_command}
use Rattle.sim_base.proofs.Lists.{cond-none}
use Rattle.queue.specs.declared.request_log.Arrived.{Arrived}
use Rattle.queue.specs.Marks.{is_marked}
use Rattle.queue.specs.Log.{waiting_requests, all_requests}
use Rattle.queue.specs.Columns.{bank_number, marked_items}
use Rattle.queue.proofs.Eligible.{marks_after}
use Rattle.queue.specs.View.{QueueView}
use Rattle.queue.specs.Candidates.{marked_requests}
use Rattle.queue.proofs.MarkedRequests.{entries_append}
use Rattle.channel_step.specs.FrFcfs.Arrivals.{ComesAfter, KeepsNext}
use Rattle.channel_step.specs.FrFcfs.Choices.{choice_in}
use Rattle.channel_step.specs.FrFcfs.Requests.{IsInBanks, finds_row_open, candidates_of}
use Rattle.channel_step.specs.FrFcfs.Offers.{IsReadyFrom, going, is_of}
use Rattle.channel_step.specs.declared.fr_fcfs.accesses.Accesses.{Accesses}
use Rattle.queue.proofs.Firsts.{marked_eligible}
use Rattle.channel_step.proofs.FrFcfs.Legal.{withheld_is, hit_is, same_bank}
use Rattle.channel_step.proofs.FrFcfs.BankOffers.{legal_then}

zip_each : (P : Request → Type 0) (rs : List Request) (ms : List ℕ) → All P rs → All (λ (e : Request × ℕ). P e.0) (zip rs ms)
zip_each P [] ms all = All-nil (λ (e : Request × ℕ). P e.0)
zip_each P (r ∷ rs) [] all = All-nil (λ (e : Request × ℕ). P e.0)
zip_each P (r ∷ rs) (m ∷ ms) all = All-cons (λ (e : Request × ℕ). P e.0) (r, m) (zip rs ms) (All-head P r rs all) (zip_each P rs ms (All-tail P r rs all))

items_each : (P : Request → Type 0) (rs : List Request) (ms : List ℕ) → All P rs → All P (marked_items rs ms)
items_each P rs ms all =
    let kept = λ (e : Request × ℕ). is_marked e.1 in
    All-map P (λ (e : Request × ℕ). e.0) (filter kept (zip rs ms)) (All-filter kept (λ (e : Request × ℕ). P e.0) (zip rs ms) (zip_each P rs ms all))

-- those of the later requests that wait with no older one for the same line
abbrev later_lines : List Arrived → List Arrived → List Request
later_lines older later = marked_items (all_requests later) (marks_after (λ p. asks_for_line p (waiting_requests older)) later)

later_each : (P : Request → Type 0) (older later : List Arrived) → All P (all_requests later) → All P (later_lines older later)
later_each P older later all = items_each P (all_requests later) (marks_after (λ p. asks_for_line p (waiting_requests older)) later) all

-- requests that come later follow those that may be served
lines_more : (older later : List Arrived) → first_of_lines (waiting_requests (older ++ later)) ≡ first_of_lines (waiting_requests older) ++ later_lines older later
lines_more older later =
    let kept = λ (e : Request × ℕ). is_marked e.1 in
    let item = λ (e : Request × ℕ). e.0 in
    let rest = zip (all_requests later) (marks_after (λ p. asks_for_line p (waiting_requests older)) later) in
    sym (marked_eligible (older ++ later))
    ∙ ap (λ es. map item (filter kept es)) (entries_append older later)
    ∙ ap (map item) (filter-append kept (marked_requests older) rest)
    ∙ map-append item (filter kept (marked_requests older)) (filter kept rest)
    ∙ ap (λ xs. xs ++ later_lines older later) (marked_eligible older)

none_found : {X : Type 0} (p : X → Bool) (xs : List X) → All (λ x. p x ≡ false) xs → find p xs ≡ None
none_found p [] all = refl
none_found p (x ∷ xs) all = ap (λ b. cond b (Some x) (find p xs)) (All-head (λ y. p y ≡ false) x xs all) ∙ none_found p xs (All-tail (λ y. p y ≡ false) x xs all)

-- what passes a stronger test passes the other
narrower : {X : Type 0} (p q : X → Bool) (xs : List X) → ((x : X) → p x ≡ false → q x ≡ false) → find p xs ≡ None → find q xs ≡ None
narrower p q [] less none = refl
narrower p q (x ∷ xs) less none =
    let parts = cond-none (p x) x (find p xs) none in ap (λ b. cond b (Some x) (find q xs)) (less x parts.0) ∙ narrower p q xs less parts.1

-- what is found passes
passes_here : {X : Type 0} (p : X → Bool) (x y : X) (rest : Option X) (b : Bool) → p y ≡ b → (rest ≡ Some x → p x ≡ true) → cond b (Some y) rest ≡ Some x → p x ≡ true
passes_here p x y rest true is further found = let same : y ≡ x = cc in subst (λ z. p z ≡ true) same is
passes_here p x y rest false is further found = further found

some_passes : {X : Type 0} (p : X → Bool) (xs : List X) (x : X) → find p xs ≡ Some x → p x ≡ true
some_passes p [] x found = cc
some_passes p (y ∷ ys) x found = passes_here p x y (find p ys) (p y) refl (some_passes p ys x) found

-- nothing is ready among requests that come after a cycle
late_hits : (s : Config) (history : List IssuedCommand) (cycle t : ℕ) (hit : Bool) (more : List Request) → t < cycle → All (ComesAfter s history cycle hit) more → find (ready_hit s history t) more ≡ None
unfolding ready_hit
late_hits s history cycle t hit more early all =
    none_found (λ r. finds_row_open history r && is_legal s history t (needed history r)) more
    (λ k d exists. ap (λ b. finds_row_open history (slice_index_or more k d) && b) ((all k d exists).late t early) ∙ and-false (finds_row_open history (slice_index_or more k d)))

no_row : (hit legal withheld : Bool) → legal ≡ false → ((not hit && legal) && not withheld) ≡ false
no_row hit legal withheld off = ap (λ b. (not hit && b) && not withheld) off ∙ ap (λ b. b && not withheld) (and-false (not hit))

late_rows : (s : Config) (history : List IssuedCommand) (cycle t : ℕ) (hit : Bool) (requests more : List Request) → t < cycle → All (ComesAfter s history cycle hit) more
    → find (ready_row s history t requests) more ≡ None
unfolding ready_row
late_rows s history cycle t hit requests more early all =
    none_found (λ r. (not (finds_row_open history r) && is_legal s history t (needed history r)) && not (is_withheld history requests (needed history r))) more
    (λ k d exists.
    no_row (finds_row_open history (slice_index_or more k d)) (is_legal s history t (needed history (slice_index_or more k d)))
    (is_withheld history requests (needed history (slice_index_or more k d))) ((all k d exists).late t early))

less_ready : (hit legal a b w : Bool) → ((not hit && legal) && not (a && not hit)) ≡ false → w ≡ ((a || b) && not hit) → ((not hit && legal) && not w) ≡ false
less_ready true legal a b w off is = refl
less_ready false false a b w off is = refl
less_ready false true true b w off is = ap not is
less_ready false true false b w off is = cc

hits_more : (history : List IssuedCommand) (requests more : List Request) (bank : BankId) → has_hit history (requests ++ more) bank ≡ (has_hit history requests bank || has_hit history more bank)
hits_more history requests more bank = list_any-append (λ r. is_row_hit r bank (open_row bank history)) requests more

-- more requests withhold more
fewer_rows : (s : Config) (history : List IssuedCommand) (t : ℕ) (requests more : List Request) (r : Request) → ready_row s history t requests r ≡ false
    → ready_row s history t (requests ++ more) r ≡ false
unfolding ready_row
fewer_rows s history t requests more r off =
    let hit = finds_row_open history r in
    let legal = is_legal s history t (needed history r) in
    let bank = bank_in r.place in
    less_ready hit legal (has_hit history requests bank) (has_hit history more bank) (is_withheld history (requests ++ more) (needed history r))
    (ap (λ w. (not hit && legal) && not w) (sym (withheld_is history requests r)) ∙ off)
    (withheld_is history (requests ++ more) r ∙ ap (λ b. b && not hit) (hits_more history requests more bank))

both_none : (history : List IssuedCommand) (a b : Option Request) → option_map (needed history) (or_else a b) ≡ None → (a ≡ None) × (b ≡ None)
both_none history None None none = (refl, refl)
both_none history None (Some r) none = cc
both_none history (Some r) b none = cc

-- nothing is ready before the cycle, as before
none_issued_still : (s : Config) (history : List IssuedCommand) (cycle t : ℕ) (hit : Bool) (requests more : List Request) → t < cycle → All (ComesAfter s history cycle hit) more
    → first_ready s history t requests ≡ None → first_ready s history t (requests ++ more) ≡ None
unfolding first_ready
none_issued_still s history cycle t hit requests more early all none =
    let parts = both_none history (find (ready_hit s history t) requests) (find (ready_row s history t requests) requests) none in
    let longer = requests ++ more in
    let hits : find (ready_hit s history t) longer ≡ None =
    find-append (ready_hit s history t) requests more ∙ (λ i. option_or (parts.0 i) (late_hits s history cycle t hit more early all i)) in
    let rows : find (ready_row s history t longer) longer ≡ None =
    find-append (ready_row s history t longer) requests more
    ∙ (λ i. option_or (narrower (ready_row s history t requests) (ready_row s history t longer) requests (fewer_rows s history t requests more) parts.1 i)
    (late_rows s history cycle t hit longer more early all i)) in
    λ i. option_map (needed history) (or_else (hits i) (rows i))

-- no row hit is among requests that need something else
no_hits_among : (s : Config) (history : List IssuedCommand) (cycle : ℕ) (more : List Request) → All (ComesAfter s history cycle false) more → (bank : BankId) → has_hit history more bank ≡ false
no_hits_among s history cycle [] all bank = refl
no_hits_among s history cycle (r ∷ rs) all bank =
    ap (λ b. b || has_hit history rs bank) (here (is_bank (bank_in r.place) bank) refl) ∙ no_hits_among s history cycle rs (All-tail (ComesAfter s history cycle false) r rs all) bank
  where
    here : (b : Bool) → is_bank (bank_in r.place) bank ≡ b → is_row_hit r bank (open_row bank history) ≡ false
    here true is =
        ap (λ b. b && is_row r.place.row (open_row bank history)) is
        ∙ ap (λ k. is_row r.place.row (open_row k history)) (sym (same_bank (bank_in r.place) bank is))
        ∙ sym (hit_is history r)
        ∙ (All-head (ComesAfter s history cycle false) r rs all).no_hit refl
    here false is = ap (λ b. b && is_row r.place.row (open_row bank history)) is

-- further requests that need something else withhold no ACT or PRE
rows_same : (s : Config) (history : List IssuedCommand) (cycle t : ℕ) (requests more : List Request) → All (ComesAfter s history cycle false) more
    → (r : Request) → ready_row s history t (requests ++ more) r ≡ ready_row s history t requests r
unfolding ready_row
rows_same s history cycle t requests more all r =
    let hit = finds_row_open history r in
    let legal = is_legal s history t (needed history r) in
    let bank = bank_in r.place in
    ap (λ w. (not hit && legal) && not w)
    (withheld_is history (requests ++ more) r
    ∙ ap (λ b. b && not hit)
    (hits_more history requests more bank ∙ ap (λ b. has_hit history requests bank || b) (no_hits_among s history cycle more all bank) ∙ or-false (has_hit history requests bank))
    ∙ sym (withheld_is history requests r))

none_hit : (s : Config) (history : List IssuedCommand) (cycle t : ℕ) (more : List Request) → All (ComesAfter s history cycle false) more → find (ready_hit s history t) more ≡ None
unfolding ready_hit
none_hit s history cycle t more all =
    none_found (λ r. finds_row_open history r && is_legal s history t (needed history r)) more
    (λ k d exists. ap (λ b. b && is_legal s history t (needed history (slice_index_or more k d))) ((all k d exists).no_hit refl))

row_is_none : (s : Config) (history : List IssuedCommand) (t : ℕ) (requests : List Request) (r : Request) → ready_row s history t requests r ≡ true → finds_row_open history r ≡ false
unfolding ready_row
row_is_none s history t requests r ready =
    let hit = finds_row_open history r in
    let legal = is_legal s history t (needed history r) in
    let outer = and_parts (not hit && legal) (not (is_withheld history requests (needed history r))) ready in
    not-true hit (and_parts (not hit) legal outer.0).0

-- what is chosen for the cycle is so still
chosen_still : (s : Config) (history : List IssuedCommand) (cycle : ℕ) (requests more : List Request) (command : Command) → All (ComesAfter s history cycle (is_column_command command)) more
    → first_ready s history cycle requests ≡ Some command → first_ready s history cycle (requests ++ more) ≡ Some command
unfolding first_ready
chosen_still s history cycle requests more command all chosen =
    by (find (ready_hit s history cycle) requests) (find (ready_row s history cycle requests) requests) refl refl chosen
  where
    longer : List Request
    longer = requests ++ more

    by : (a b : Option Request) → find (ready_hit s history cycle) requests ≡ a → find (ready_row s history cycle requests) requests ≡ b → option_map (needed history) (or_else a b) ≡ Some command
        → option_map (needed history) (or_else (find (ready_hit s history cycle) longer) (find (ready_row s history cycle longer) longer)) ≡ Some command
    by (Some r) b hit row is =
        let first : find (ready_hit s history cycle) longer ≡ Some r =
        find-append (ready_hit s history cycle) requests more ∙ ap (λ o. option_or o (find (ready_hit s history cycle) more)) hit in
        ap (λ o. option_map (needed history) (or_else o (find (ready_row s history cycle longer) longer))) first ∙ is
    by None None hit row is = cc
    by None (Some r) hit row is =
        let command_is : needed history r ≡ command = cc in
        let other : is_column_command command ≡ false =
        ap is_column_command (sym command_is) ∙ row_is_none s history cycle requests r (some_passes (ready_row s history cycle requests) requests r row) in
        let rest : All (ComesAfter s history cycle false) more = subst (λ b. All (ComesAfter s history cycle b) more) other all in
        let hits : find (ready_hit s history cycle) longer ≡ None =
        find-append (ready_hit s history cycle) requests more ∙ (λ i. option_or (hit i) (none_hit s history cycle cycle more rest i)) in
        let first : find (ready_row s history cycle longer) longer ≡ Some r =
        find-append (ready_row s history cycle longer) requests more
        ∙ ap (λ (p : Request → Bool). option_or (find p requests) (find (ready_row s history cycle longer) more)) (λ i q. rows_same s history cycle cycle requests more rest q i)
        ∙ ap (λ o. option_or o (find (ready_row s history cycle longer) more)) row in
        (λ i. option_map (needed history) (or_else (hits i) (first i))) ∙ is

-- a rank that is to be refreshed does not look at the requests
between_chosen : (s : Config) (history : List IssuedCommand) (cycle : ℕ) (requests more : List Request) (command : Command) (due : Option ℕ)
    → All (ComesAfter s history cycle (is_column_command command)) more
    → choice_between s history cycle requests due ≡ Some command → choice_between s history cycle (requests ++ more) due ≡ Some command
unfolding choice_between
between_chosen s history cycle requests more command None all chosen = chosen_still s history cycle requests more command all chosen
between_chosen s history cycle requests more command (Some rank) all chosen = chosen

between_none_issued : (s : Config) (history : List IssuedCommand) (cycle t : ℕ) (hit : Bool) (requests more : List Request) (due : Option ℕ) → t < cycle → All (ComesAfter s history cycle hit) more
    → choice_between s history t requests due ≡ None → choice_between s history t (requests ++ more) due ≡ None
unfolding choice_between
between_none_issued s history cycle t hit requests more None early all none = none_issued_still s history cycle t hit requests more early all none
between_none_issued s history cycle t hit requests more (Some rank) early all none = none

filtered_one : (p : Request → Bool) (P : Request → Type 0) (r : Request) (rest : List Request) (b : Bool) → p r ≡ b → (p r ≡ true → P r) → All P rest → All P (cond b (r ∷ rest) rest)
filtered_one p P r rest true e here all = All-cons P r rest (here e) all
filtered_one p P r rest false e here all = all

-- those of some requests that pass a test
filtered_each : (p : Request → Bool) (P : Request → Type 0) (rs : List Request) → All (λ r. p r ≡ true → P r) rs → All P (filter p rs)
filtered_each p P [] all = All-nil P
filtered_each p P (r ∷ rs) all =
    let Q = λ (x : Request). p x ≡ true → P x in
    filtered_one p P r (filter p rs) (p r) refl (All-head Q r rs all) (filtered_each p P rs (All-tail Q r rs all))

-- What is next stays so with requests that arrive, where requests of the same accesses go, and those of them that
-- arrived come after it.
pub next_stays : (s : Config) (history : List IssuedCommand) (earlier later : QueueView) (new : List Arrived) (accesses : Accesses) (cycle : ℕ) (command : Command)
    → candidates_of s earlier ≡ going accesses earlier.log → candidates_of s later ≡ going accesses later.log → later.log ≡ earlier.log ++ new
    → All (λ r. is_of accesses r ≡ true → ComesAfter s history cycle (is_column_command command) r) (all_requests new)
    → KeepsNext (choice_in s history earlier) (choice_in s history later) cycle command
next_stays s history earlier later new accesses cycle command went go whole all =
    let requests = candidates_of s earlier in
    let P = λ (r : Request). is_of accesses r ≡ true → ComesAfter s history cycle (is_column_command command) r in
    let more = filter (is_of accesses) (later_lines earlier.log new) in
    let each = filtered_each (is_of accesses) (ComesAfter s history cycle (is_column_command command)) (later_lines earlier.log new) (later_each P earlier.log new all) in
    let same : candidates_of s later ≡ requests ++ more =
    go
    ∙ ap (going accesses) whole
    ∙ ap (filter (is_of accesses)) (lines_more earlier.log new)
    ∙ filter-append (is_of accesses) (first_of_lines (waiting_requests earlier.log)) (later_lines earlier.log new)
    ∙ ap (λ xs. xs ++ more) (sym went) in
    record {
      then_is = λ chosen.
          ap (λ xs. choice_between s history cycle xs (lowest_due s history cycle)) same
          ∙ between_chosen s history cycle requests more command (lowest_due s history cycle) each chosen;
      none_before = λ t early none.
          ap (λ xs. choice_between s history t xs (lowest_due s history t)) same
          ∙ between_none_issued s history cycle t (is_column_command command) requests more (lowest_due s history t) early each none;
    }

-- a request that comes after, by the first cycle in which what it needs may be issued
pub after_ready : (s : Config) (history : List IssuedCommand) (ranks : ℕ) (r : Request) (k : Kind) (ready cycle : ℕ) (hit : Bool) → IsInBanks ranks r → IsReadyFrom s history (bank_at (bank_number r.place)) k ready
    → kind_of (needed history r) ≡ k → cycle ≤ ready → (hit ≡ false → finds_row_open history r ≡ false) → ComesAfter s history cycle hit r
after_ready s history ranks r k ready cycle hit places from kind_is late other =
    let bank = bank_number r.place in
    record {
      late = λ t early. legal_then s history ranks r bank k ready places from (eq-eqb bank bank refl) kind_is t ∙ lt-leb ready t (omega arith);
      no_hit = other;
    }

-- the requests from a place on
pub all_dropped : (P : Request → Type 0) (rs : List Request) (from : ℕ) → AllWithin P rs from (length rs) → All P (drop from rs)
all_dropped P rs from all =
    λ k d exists.
    let there : from + k < length rs = omega (arith, length-drop from rs) in
    let from_on : from ≤ from + k = omega arith in
    subst P (sym (get_or-drop from rs k d)) (all (from + k) d from_on there)

-- what the request at a place needs
pub needed_there : (history : List IssuedCommand) (log : List Arrived) (place : ℕ) (d : Arrived) (command : Command) → place < length log
    → option_map (needed history) (slice_get (all_requests log) place) ≡ Some command → needed history (slice_index_or log place d).request ≡ command
needed_there history log place d command within is =
    let request = λ (a : Arrived). a.request in
    let there : slice_get (all_requests log) place ≡ Some (slice_index_or log place d).request =
    slice_get-get_or (all_requests log) place d.request (omega (arith, within, length-map log request)) ∙ ap Some (get_or-map request log place d d.request within) in
    let same : Some (needed history (slice_index_or log place d).request) ≡ Some command = sym (ap (option_map (needed history)) there) ∙ is in
    cc

-- what a rank needs that is to be refreshed is no column command
pub refresh-no_column : (s : Config) (history : List IssuedCommand) (rank : ℕ) (command : Command) → Some (refresh_command s history rank) ≡ Some command → is_column_command command ≡ false
unfolding refresh_command
refresh-no_column s history rank command is =
    let same : refresh_command s history rank ≡ command = cc in
    ap is_column_command (sym same) ∙ none (has_open_bank s history rank)
  where
    none : (b : Bool) → is_column_command (cond b (Prea rank) (Ref rank)) ≡ false
    none true = refl
    none false = refl

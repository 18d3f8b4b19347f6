-- What one bank offers beside the best offer so far.
use Rattle.std.proofs.Common.{◌≡◌, ℕ, ◌*◌, ◌<◌, ◌≤◌, Bool, true, false, not, cond, ◌&&◌, ◌||◌, eqb, leb, eq-eqb, max, List, length, Option, Some, None, refl, sym, ap, subst, ◌∙◌, inl, inr, arith}
use Rattle.std.proofs.lemmas.Bool.{cases_Bool, and_parts, false_from_ne_true, not-true}
use Rattle.std.specs.List.{All}
use Rattle.std.specs.Option.{is_some, IfSome}
use Rattle.std.proofs.Math.Bool.{or-false, and-false, and-true}
use Rattle.sim_base.specs.declared.config.Config.{Config}
use Rattle.sim_base.specs.declared.command.Command.{Command}
use Rattle.sim_base.specs.declared.command.IssuedCommand.{IssuedCommand}
use Rattle.sim_base.specs.declared.command.Kind.{Kind}
use Rattle.sim_base.specs.declared.command.Kind.TheVariants as kind
use Rattle.sim_base.specs.declared.message.Access.{Access}
use Rattle.sim_base.specs.declared.message.Access.TheVariants as access
use Rattle.sim_base.specs.declared.message.Request.{Request}
use Rattle.sim_base.specs.Access.{is_access}
use Rattle.sim_base.specs.Places.{bank_in, bank_at}
use Rattle.sim_base.specs.Rules.{is_legal, is_allowed, is_kind, finds_its_banks, open_row, is_row, kind_of, bank_of}
use Rattle.sim_base.specs.Scheduling.{needed, ready_hit, ready_row, is_withheld}
use Rattle.bank_ready.specs.Ready.{ready_from}
use Rattle.bank_ready.specs.Words.{window_from}
use Rattle.bank_ready.specs.Stands.{Ascends, IsAllowedFrom}
use Rattle.bank_ready.proofs.Allowed.{allowed-other, allowed-act}
use Rattle.queue.specs.declared.request_log.Arrived.{Arrived}
use Rattle.queue.specs.Log.{all_requests}
use Rattle.queue.specs.Columns.{bank_number}
use Rattle.queue.specs.declared.bank_candidates.entry.CandidatesOfBank.{CandidatesOfBank}
use Rattle.queue.specs.declared.bank_candidates.entry.AccessCandidates.{AccessCandidates}
use Rattle.queue.specs.declared.bank_candidates.all_banks.BankCandidates.{BankCandidates}
use Rattle.queue.specs.Stands.{candidates_of_bank, candidates_to}
use Rattle.queue.specs.Candidates.{hits, first_place, AreFirst, AreCandidates}
use Rattle.sim_base.specs.Earlier.{earlier}
use Rattle.queue.proofs.Searches.{none_everywhere}
use Rattle.sim_base.proofs.Lists.{none-is}
use Rattle.queue.proofs.BankCandidatesServed.{earlier_none}
use Rattle.channel_step.specs.declared.fr_fcfs.accesses.Accesses.{Accesses}
use Rattle.channel_step.specs.declared.fr_fcfs.offers.Offer.{Offer}
use Rattle.channel_step.specs.FrFcfs.Requests.{IsInBanks, finds_row_open}
use Rattle.channel_step.specs.FrFcfs.Offers.{includes, is_of, only, column_kind, if_allowed, hit_candidate, oldest_candidate, going, hits_now, hits_in, row_requests_now, row_requests_in, offer_from, row_kind, IsReadyFrom, IsBestOffer, IsBestSoFar}
use Rattle.channel_step.proofs.FrFcfs.Legal.{needed_bank}
use Rattle.channel_step.proofs.FrFcfs.Firsts.{same_among, either_among, place_if}
use Rattle.channel_step.proofs.FrFcfs.Bests.{hit_offer_is, row_offer_is, best_same}
use Rattle.channel_step.proofs.FrFcfs.BankOffers.{bank_is, row_hit_is, hit_kind, row_kind_at, legal_then, rows_are, rows_withheld, none_offered, no_hits}
use Rattle.channel_step.proofs.FrFcfs.Favoured.{within}
use Rattle.channel_step.proofs.FrFcfs.SoFar.{IsTaken, one_more, so_far_same}

-- the candidates of a bank, of one access
abbrev pub access_candidates : Access → CandidatesOfBank → AccessCandidates
access_candidates access.Read h = h.reads
access_candidates access.Write h = h.writes

pub candidates_are : (bank_candidates : BankCandidates) (bank : ℕ) (access : Access) → access_candidates access (candidates_of_bank bank_candidates bank) ≡ candidates_to bank_candidates bank access
candidates_are bank_candidates bank access.Read = refl
candidates_are bank_candidates bank access.Write = refl

pub access_first : (access : Access) (log : List Arrived) (bank : ℕ) (h : CandidatesOfBank) → AreCandidates log bank h → AreFirst log bank access h.row (access_candidates access h)
access_first access.Write log bank h first = first.writes_are
access_first access.Read log bank h first = first.reads_are

hit_only : (access : Access) (h : CandidatesOfBank) → hit_candidate (only access) h ≡ (access_candidates access h).hit
hit_only access.Write h = refl
hit_only access.Read h = earlier_none h.reads.hit

hit_test : (b : Bool) (w k : Access) (ready hit row_hit legal : Bool) → (b ≡ true → hit ≡ row_hit) → (b ≡ true → w ≡ k → hit ≡ true → legal ≡ ready)
    → (b && (includes (only k) w && (hit && legal))) ≡ (ready && ((b && is_access k w) && row_hit))
hit_test false w k ready hit row_hit legal same when = sym (and-false ready)
hit_test true access.Write access.Write ready hit row_hit legal same when = one hit row_hit legal ready (same refl) (when refl refl)
  where
    one : (h rh l ready : Bool) → h ≡ rh → (h ≡ true → l ≡ ready) → (h && l) ≡ (ready && rh)
    one true rh l ready is then = then refl ∙ sym (ap (λ t. ready && t) (sym is) ∙ and-true ready)
    one false rh l ready is then = sym (ap (λ t. ready && t) (sym is) ∙ and-false ready)
hit_test true access.Write access.Read ready hit row_hit legal same when = sym (and-false ready)
hit_test true access.Read access.Write ready hit row_hit legal same when = sym (and-false ready)
hit_test true access.Read access.Read ready hit row_hit legal same when = one hit row_hit legal ready (same refl) (when refl refl)
  where
    one : (h rh l ready : Bool) → h ≡ rh → (h ≡ true → l ≡ ready) → (h && l) ≡ (ready && rh)
    one true rh l ready is then = then refl ∙ sym (ap (λ t. ready && t) (sym is) ∙ and-true ready)
    one false rh l ready is then = sym (ap (λ t. ready && t) (sym is) ∙ and-false ready)

-- the first row hit of a bank that is ready
hits_of_access : (s : Config) (history : List IssuedCommand) (ranks : ℕ) (log : List Arrived) (access : Access) (bank : ℕ) (h : CandidatesOfBank) (ready : ℕ) → All (IsInBanks ranks) (all_requests log)
    → AreCandidates log bank h → h.row ≡ open_row (bank_at bank) history → IsReadyFrom s history (bank_at bank) (column_kind access) ready → (cycle : ℕ)
    → hits_in s history log (only access) bank cycle ≡ cond (leb ready cycle) (access_candidates access h).hit None
unfolding ready_hit
hits_of_access s history ranks log access bank h ready places first row_is from cycle =
    same_among (λ r. eqb (bank_number r.place) bank && hits_now s history (only access) cycle r) (λ r. leb ready cycle && hits bank access h.row r) (IsInBanks ranks) log places
    (λ r in_banks.
    hit_test (eqb (bank_number r.place) bank) r.access access (leb ready cycle) (finds_row_open history r) (is_row r.place.row h.row) (is_legal s history cycle (needed history r))
    (row_hit_is history ranks r bank h.row in_banks row_is)
    (λ here same hit. legal_then s history ranks r bank (column_kind access) ready in_banks from here (hit_kind history r hit ∙ ap column_kind same) cycle))
    ∙ place_if (leb ready cycle) (hits bank access h.row) log
    ∙ ap (λ o. cond (leb ready cycle) o None) (sym (access_first access log bank h first).hit_is)

-- what a bank offers to those that ask for its open row
pub access_hit : (s : Config) (history : List IssuedCommand) (ranks : ℕ) (log : List Arrived) (access : Access) (bank : ℕ) (h : CandidatesOfBank) (ready now place : ℕ) → All (IsInBanks ranks) (all_requests log)
    → AreCandidates log bank h → h.row ≡ open_row (bank_at bank) history → IsReadyFrom s history (bank_at bank) (column_kind access) ready → (access_candidates access h).hit ≡ Some place
    → IsBestOffer now (hits_in s history log (only access) bank) (row_requests_in s history log (only access) bank) (offer_from now ready true place)
access_hit s history ranks log access bank h ready now place places first row_is from hit =
    best_same now (λ c. cond (leb ready c) (Some place) None) (λ c. None) (hits_in s history log (only access) bank) (row_requests_in s history log (only access) bank)
    (Some (offer_from now ready true place))
    (λ c late. sym (hits_of_access s history ranks log access bank h ready places first row_is from c ∙ ap (λ o. cond (leb ready c) o None) hit))
    (λ c late. sym (rows_withheld s history ranks log (only access) bank h places first row_is (ap is_some (hit_only access h ∙ hit)) c)) (hit_offer_is now ready (Some place))

either_within : (n : ℕ) (a b : Option ℕ) (ka kb : Bool) → IfSome a (λ k. k < n) → IfSome b (λ k. k < n) → IfSome (earlier (if_allowed a ka) (if_allowed b kb)) (λ k. k < n)
either_within n a b false false in_a in_b = tt
either_within n a b false true in_a in_b = in_b
either_within n a b true false in_a in_b = subst (λ o. IfSome o (λ k. k < n)) (sym (earlier_none a)) in_a
either_within n None b true true in_a in_b = in_b
either_within n (Some k) None true true in_a in_b = in_a
either_within n (Some k) (Some j) true true in_a in_b = omega arith

-- the first request of a bank stands within the queue
within_accesses : (log : List Arrived) (accesses : Accesses) (bank : ℕ) (h : CandidatesOfBank) → AreCandidates log bank h → IfSome (oldest_candidate accesses h) (λ k. k < length log)
within_accesses log accesses bank h first =
    either_within (length log) h.reads.oldest h.writes.oldest accesses.reads accesses.writes (within _ log h.reads.oldest first.reads_are.oldest_is)
    (within _ log h.writes.oldest first.writes_are.oldest_is)

-- what a bank offers where none asks for its open row
accesses_row : (s : Config) (history : List IssuedCommand) (ranks : ℕ) (log : List Arrived) (accesses : Accesses) (bank : ℕ) (h : CandidatesOfBank) (ready now place : ℕ) → All (IsInBanks ranks) (all_requests log)
    → AreCandidates log bank h → h.row ≡ open_row (bank_at bank) history → IsReadyFrom s history (bank_at bank) (row_kind h.row) ready → hit_candidate accesses h ≡ None
    → oldest_candidate accesses h ≡ Some place
    → IsBestOffer now (hits_in s history log accesses bank) (row_requests_in s history log accesses bank) (offer_from now ready false place)
accesses_row s history ranks log accesses bank h ready now place places first row_is from none oldest =
    best_same now (λ c. None) (λ c. cond (leb ready c) (Some place) None) (hits_in s history log accesses bank) (row_requests_in s history log accesses bank)
    (Some (offer_from now ready false place)) (λ c late. sym (no_hits s history ranks log accesses bank h places first row_is none c))
    (λ c late. sym (rows_are s history ranks log accesses bank h ready places first row_is from (ap is_some none) c ∙ ap (λ o. cond (leb ready c) o None) oldest))
    (row_offer_is now ready (Some place))

-- the best offer so far with the candidate of a bank, where none asks for its open row
pub row_more : (s : Config) (history : List IssuedCommand) (ranks : ℕ) (log : List Arrived) (accesses : Accesses) (bank : ℕ) (h : CandidatesOfBank) (ready now : ℕ) (hits rows : ℕ → Option ℕ)
    (best after : Offer) → ready ≤ 18446744073709551615 → now ≤ 18446744073709551615 → All (IsInBanks ranks) (all_requests log) → AreCandidates log bank h
    → h.row ≡ open_row (bank_at bank) history → IsReadyFrom s history (bank_at bank) (row_kind h.row) ready → is_some (hit_candidate accesses h) ≡ false
    → (candidate : Option ℕ) → oldest_candidate accesses h ≡ candidate → IsTaken candidate now ready false best after → IsBestSoFar (length log) now hits rows best
    → IsBestSoFar (length log) now hits (λ c. earlier (rows c) (row_requests_in s history log accesses bank c)) after
row_more s history ranks log accesses bank h ready now hits rows best after ready_fits now_fits places first row_is from no_hit None oldest step so_far =
    so_far_same (length log) now hits rows hits (λ c. earlier (rows c) (row_requests_in s history log accesses bank c)) after (λ c late. refl)
    (λ c late. sym (ap (earlier (rows c)) (none_offered log accesses bank h _ first oldest) ∙ earlier_none (rows c)))
    (subst (IsBestSoFar (length log) now hits rows) (sym (step.none refl)) so_far)
row_more s history ranks log accesses bank h ready now hits rows best after ready_fits now_fits places first row_is from no_hit (Some place) oldest step so_far =
    let none = none-is (hit_candidate accesses h) no_hit in
    let inside : place < length log = subst (λ o. IfSome o (λ k. k < length log)) oldest (within_accesses log accesses bank h first) in
    so_far_same (length log) now (λ c. earlier (hits c) (hits_in s history log accesses bank c)) (λ c. earlier (rows c) (row_requests_in s history log accesses bank c)) hits
    (λ c. earlier (rows c) (row_requests_in s history log accesses bank c)) after
    (λ c late. ap (earlier (hits c)) (no_hits s history ranks log accesses bank h places first row_is none c) ∙ earlier_none (hits c)) (λ c late. refl)
    (subst (IsBestSoFar (length log) now (λ c. earlier (hits c) (hits_in s history log accesses bank c)) (λ c. earlier (rows c) (row_requests_in s history log accesses bank c)))
    (sym (step.some place refl))
    (one_more (length log) now hits rows (hits_in s history log accesses bank) (row_requests_in s history log accesses bank) best (offer_from now ready false place) inside (omega arith) so_far
    (accesses_row s history ranks log accesses bank h ready now place places first row_is from none oldest)))

-- the best offer so far with the row hit of a bank for one access
pub hit_more : (s : Config) (history : List IssuedCommand) (ranks : ℕ) (log : List Arrived) (access : Access) (bank : ℕ) (h : CandidatesOfBank) (ready now : ℕ) (hits rows : ℕ → Option ℕ)
    (best after : Offer) → ready ≤ 18446744073709551615 → now ≤ 18446744073709551615 → All (IsInBanks ranks) (all_requests log) → AreCandidates log bank h
    → h.row ≡ open_row (bank_at bank) history → IsReadyFrom s history (bank_at bank) (column_kind access) ready
    → (candidate : Option ℕ) → (access_candidates access h).hit ≡ candidate → IsTaken candidate now ready true best after → IsBestSoFar (length log) now hits rows best
    → IsBestSoFar (length log) now (λ c. earlier (hits c) (hits_in s history log (only access) bank c)) rows after
hit_more s history ranks log access bank h ready now hits rows best after ready_fits now_fits places first row_is from None hit step so_far =
    so_far_same (length log) now hits rows (λ c. earlier (hits c) (hits_in s history log (only access) bank c)) rows after
    (λ c late. sym (ap (earlier (hits c)) (no_hits s history ranks log (only access) bank h places first row_is (hit_only access h ∙ hit) c) ∙ earlier_none (hits c))) (λ c late. refl)
    (subst (IsBestSoFar (length log) now hits rows) (sym (step.none refl)) so_far)
hit_more s history ranks log access bank h ready now hits rows best after ready_fits now_fits places first row_is from (Some place) hit step so_far =
    let inside : place < length log = subst (λ o. IfSome o (λ k. k < length log)) hit (within _ log (access_candidates access h).hit (access_first access log bank h first).hit_is) in
    so_far_same (length log) now (λ c. earlier (hits c) (hits_in s history log (only access) bank c)) (λ c. earlier (rows c) (row_requests_in s history log (only access) bank c))
    (λ c. earlier (hits c) (hits_in s history log (only access) bank c)) rows after (λ c late. refl)
    (λ c late. ap (earlier (rows c)) (rows_withheld s history ranks log (only access) bank h places first row_is (ap is_some (hit_only access h ∙ hit)) c) ∙ earlier_none (rows c))
    (subst (IsBestSoFar (length log) now (λ c. earlier (hits c) (hits_in s history log (only access) bank c)) (λ c. earlier (rows c) (row_requests_in s history log (only access) bank c)))
    (sym (step.some place refl))
    (one_more (length log) now hits rows (hits_in s history log (only access) bank) (row_requests_in s history log (only access) bank) best (offer_from now ready true place) inside (omega arith) so_far
    (access_hit s history ranks log access bank h ready now place places first row_is from hit)))

-- a bank that is not asked for, or has a row hit, offers nothing else
pub row_none : (s : Config) (history : List IssuedCommand) (ranks : ℕ) (log : List Arrived) (accesses : Accesses) (bank : ℕ) (h : CandidatesOfBank) → All (IsInBanks ranks) (all_requests log)
    → AreCandidates log bank h → h.row ≡ open_row (bank_at bank) history → (is_some (oldest_candidate accesses h) && not (is_some (hit_candidate accesses h))) ≡ false → (cycle : ℕ)
    → row_requests_in s history log accesses bank cycle ≡ None
row_none s history ranks log accesses bank h places first row_is left cycle = elim (cases_Bool (is_some (hit_candidate accesses h))) [
  | inl hit ↦ rows_withheld s history ranks log accesses bank h places first row_is hit cycle
  | inr no_hit ↦
      let none : is_some (oldest_candidate accesses h) ≡ false =
      sym (and-true (is_some (oldest_candidate accesses h))) ∙ ap (λ b. is_some (oldest_candidate accesses h) && not b) (sym no_hit) ∙ left in
      none_offered log accesses bank h _ first (none-is (oldest_candidate accesses h) none)
]

-- some bank is asked for by a kind that goes
pub some_allowed : (a b : Option ℕ) (ka kb : Bool) → ((ka && is_some a) || (kb && is_some b)) ≡ is_some (earlier (if_allowed a ka) (if_allowed b kb))
some_allowed a b false false = refl
some_allowed a b false true = refl
some_allowed a b true false = or-false (is_some a) ∙ ap is_some (sym (earlier_none a))
some_allowed None b true true = refl
some_allowed (Some k) None true true = refl
some_allowed (Some k) (Some j) true true = refl

pub either_in : {P : Type 0} (kr kw a b : Bool) → ((kr && a) || (kw && b)) ≡ true → (a ≡ true → P) → (b ≡ true → P) → P
either_in true kw true b there in_a in_b = in_a refl
either_in true true false b there in_a in_b = in_b there
either_in true false false b there in_a in_b = cc
either_in false true a b there in_a in_b = in_b there
either_in false false a b there in_a in_b = cc

-- row hits to read and to access are all that there are
access_hits : (w : Access) (kr kw h : Bool)
    → (includes (record { reads = kr; writes = kw }) w && h) ≡ ((kr && (includes (only access.Read) w && h)) || (kw && (includes (only access.Write) w && h)))
access_hits access.Write true true h = refl
access_hits access.Write false true h = refl
access_hits access.Write true false h = refl
access_hits access.Write false false h = refl
access_hits access.Read true kw h = sym (ap (λ t. h || t) (and-false kw) ∙ or-false h)
access_hits access.Read false true h = refl
access_hits access.Read false false h = refl

pub both_hits : (s : Config) (history : List IssuedCommand) (log : List Arrived) (accesses : Accesses) (cycle : ℕ)
    → earlier (first_place (λ r. accesses.reads && hits_now s history (only access.Read) cycle r) log) (first_place (λ r. accesses.writes && hits_now s history (only access.Write) cycle r) log)
    ≡ first_place (hits_now s history accesses cycle) log
both_hits s history log accesses cycle =
    sym
    (either_among (hits_now s history accesses cycle) (λ r. accesses.reads && hits_now s history (only access.Read) cycle r) (λ r. accesses.writes && hits_now s history (only access.Write) cycle r) (λ r. Unit {0})
    log (λ k d exists. tt) (λ r in_all. access_hits r.access accesses.reads accesses.writes (ready_hit s history cycle r)))

-- places of a kind that does not go
pub none_goes : (rows : ℕ → Option ℕ) (goes : Bool) (test : ℕ → Request → Bool) (log : List Arrived) → goes ≡ false → (cycle : ℕ)
    → rows cycle ≡ earlier (rows cycle) (first_place (λ r. goes && test cycle r) log)
none_goes rows goes test log off cycle =
    sym (earlier_none (rows cycle))
    ∙ ap (earlier (rows cycle)) (sym (ap (λ b. cond b (first_place (test cycle) log) None) off) ∙ sym (place_if goes (test cycle) log))

-- the places of a kind of requests that goes
pub all_go : (goes : Bool) (test : Request → Bool) (log : List Arrived) → goes ≡ true → first_place (λ r. goes && test r) log ≡ first_place test log
all_go goes test log on = place_if goes test log ∙ ap (λ b. cond b (first_place test log) None) on

-- a bank with no row hit
pub hit_none : (s : Config) (history : List IssuedCommand) (ranks : ℕ) (log : List Arrived) (access : Access) (bank : ℕ) (h : CandidatesOfBank) → All (IsInBanks ranks) (all_requests log)
    → AreCandidates log bank h → h.row ≡ open_row (bank_at bank) history → is_some (access_candidates access h).hit ≡ false → (cycle : ℕ)
    → hits_in s history log (only access) bank cycle ≡ None
hit_none s history ranks log access bank h places first row_is none cycle =
    no_hits s history ranks log (only access) bank h places first row_is (hit_only access h ∙ none-is (access_candidates access h).hit none) cycle

-- no command of a kind to a bank of `ranks` ranks is allowed before this cycle
abbrev pub IsFloor : Config → List IssuedCommand → ℕ → Kind → ℕ → Type 0
IsFloor s history ranks k floor =
    (command : Command) (cycle bank : ℕ) → kind_of command ≡ k → bank_of command ≡ Some (bank_at bank) → bank < 16 * ranks → IsAllowedFrom s history command cycle → floor ≤ cycle

same_access : (w k : Access) → includes (only k) w ≡ true → w ≡ k
same_access access.Write access.Write is = refl
same_access access.Write access.Read is = cc
same_access access.Read access.Write is = cc
same_access access.Read access.Read is = refl

column_other : (k : Access) → is_kind (column_kind k) kind.Act ≡ false
column_other access.Write = refl
column_other access.Read = refl

allowed_too : (s : Config) (history : List IssuedCommand) (cycle : ℕ) (command : Command) → is_legal s history cycle command ≡ true → is_allowed s.timing history cycle command ≡ true
unfolding is_legal
allowed_too s history cycle command legal = (and_parts (finds_its_banks s history command) (is_allowed s.timing history cycle command) legal).1

number_in : (ranks : ℕ) (r : Request) → IsInBanks ranks r → bank_number r.place < 16 * ranks
number_in ranks r places = omega (arith, places.rank, places.group, places.bank)

hit_after : (s : Config) (history : List IssuedCommand) (ranks : ℕ) (r : Request) (access : Access) (floor cycle : ℕ) → IsInBanks ranks r → IsFloor s history ranks (column_kind access) floor
    → hits_now s history (only access) cycle r ≡ true → floor ≤ cycle
unfolding ready_hit needed
hit_after s history ranks r access floor cycle in_banks least now_is =
    let outer = and_parts (is_of (only access) r) (ready_hit s history cycle r) now_is in
    let parts = and_parts (finds_row_open history r) (is_legal s history cycle (needed history r)) outer.1 in
    let bank = bank_number r.place in
    let command = needed history r in
    let kind_is : kind_of command ≡ column_kind access = hit_kind history r parts.0 ∙ ap column_kind (same_access r.access access outer.0) in
    let bank_is_at : bank_of command ≡ Some (bank_at bank) = needed_bank (open_row (bank_in r.place) history) r ∙ ap Some (bank_is ranks r bank in_banks (eq-eqb bank bank refl)) in
    let allowed = λ (now : ℕ). allowed-other s.timing history now command (column_kind access) (bank_at bank) kind_is bank_is_at (column_other access) in
    let late = (allowed cycle).1 (allowed_too s history cycle command parts.1) in
    let floor_is = least command (ready_from s.timing history (column_kind access) (bank_at bank).rank (Some (bank_at bank))) bank kind_is bank_is_at (number_in ranks r in_banks) allowed in
    omega (arith, late, floor_is)

-- no row hit is ready before it
pub hits_before : (s : Config) (history : List IssuedCommand) (ranks : ℕ) (log : List Arrived) (access : Access) (floor : ℕ) → All (IsInBanks ranks) (all_requests log)
    → IsFloor s history ranks (column_kind access) floor → (cycle : ℕ) → cycle < floor → first_place (hits_now s history (only access) cycle) log ≡ None
hits_before s history ranks log access floor places least cycle early =
    same_among (hits_now s history (only access) cycle) (λ r. false) (IsInBanks ranks) log places
    (λ r in_banks.
    false_from_ne_true (hits_now s history (only access) cycle r)
    (λ now_is. let late = hit_after s history ranks r access floor cycle in_banks least now_is in absurd (omega arith)))
    ∙ sym (none_everywhere (λ r. false) log (λ r. refl))

act_after : (s : Config) (history : List IssuedCommand) (ranks : ℕ) (log : List Arrived) (accesses : Accesses) (r : Request) (floor cycle : ℕ) → IsInBanks ranks r → Ascends history
    → IsFloor s history ranks kind.Act floor → open_row (bank_in r.place) history ≡ None → row_requests_now s history log accesses cycle r ≡ true → floor ≤ cycle
unfolding ready_row needed
act_after s history ranks log accesses r floor cycle in_banks up least closed now_is =
    let cands = going accesses log in
    let outer = and_parts (is_of accesses r) (ready_row s history cycle cands r) now_is in
    let inner = and_parts (not (finds_row_open history r) && is_legal s history cycle (needed history r)) (not (is_withheld history cands (needed history r))) outer.1 in
    let parts = and_parts (not (finds_row_open history r)) (is_legal s history cycle (needed history r)) inner.0 in
    let bank = bank_number r.place in
    let command = needed history r in
    let kind_is : kind_of command ≡ kind.Act = row_kind_at (open_row (bank_in r.place) history) r (not-true (finds_row_open history r) parts.0) ∙ ap row_kind closed in
    let bank_is_at : bank_of command ≡ Some (bank_at bank) = needed_bank (open_row (bank_in r.place) history) r ∙ ap Some (bank_is ranks r bank in_banks (eq-eqb bank bank refl)) in
    let allowed = λ (now : ℕ). allowed-act s.timing history now command (bank_at bank) up kind_is bank_is_at in
    let late = (allowed cycle).1 (allowed_too s history cycle command parts.1) in
    let ready = max (ready_from s.timing history kind.Act (bank_at bank).rank (Some (bank_at bank))) (window_from s.timing (bank_at bank).rank history).oldest in
    let floor_is = least command ready bank kind_is bank_is_at (number_in ranks r in_banks) allowed in
    omega (arith, late, floor_is)

-- no ACT for a closed bank is ready before it
pub acts_before : (s : Config) (history : List IssuedCommand) (ranks : ℕ) (log : List Arrived) (accesses : Accesses) (closed : ℕ → Bool) (floor : ℕ) → All (IsInBanks ranks) (all_requests log)
    → Ascends history → IsFloor s history ranks kind.Act floor → ((bank : ℕ) → closed bank ≡ true → open_row (bank_at bank) history ≡ None) → (cycle : ℕ) → cycle < floor
    → first_place (λ r. closed (bank_number r.place) && row_requests_now s history log accesses cycle r) log ≡ None
acts_before s history ranks log accesses closed floor places up least none cycle early =
    same_among (λ r. closed (bank_number r.place) && row_requests_now s history log accesses cycle r) (λ r. false) (IsInBanks ranks) log places
    (λ r in_banks.
    false_from_ne_true (closed (bank_number r.place) && row_requests_now s history log accesses cycle r)
    (λ both.
    let parts = and_parts (closed (bank_number r.place)) (row_requests_now s history log accesses cycle r) both in
    let row_is = ap (λ b. open_row b history) (bank_is ranks r (bank_number r.place) in_banks (eq-eqb (bank_number r.place) (bank_number r.place) refl)) ∙ none (bank_number r.place) parts.0 in
    let late = act_after s history ranks log accesses r floor cycle in_banks up least row_is parts.1 in absurd (omega arith)))
    ∙ sym (none_everywhere (λ r. false) log (λ r. refl))

-- What one bank offers.
use Rattle.std.proofs.Common.{◌≡◌, ℕ, ◌/◌, ◌%◌, Bool, true, false, not, cond, ◌&&◌, ◌||◌, eqb, leb, List, Option, Some, None, refl, sym, ap, ◌∙◌, inl, inr, arith}
use Rattle.std.proofs.lemmas.Bool.{cases_Bool, cond-true, cond-false, eqb-true, true≢false}
use Rattle.std.specs.List.{All}
use Rattle.std.specs.Option.{is_some}
use Rattle.std.proofs.Math.Bool.{or-false, and-false, and-true}
use Rattle.sim_base.specs.declared.config.Config.{Config}
use Rattle.sim_base.specs.declared.command.Command.TheVariants.{Pre}
use Rattle.sim_base.specs.declared.command.IssuedCommand.{IssuedCommand}
use Rattle.sim_base.specs.declared.command.Kind.{Kind}
use Rattle.sim_base.specs.declared.message.Access.{Access}
use Rattle.sim_base.specs.declared.message.Access.TheVariants as access
use Rattle.sim_base.specs.declared.message.Request.{Request}
use Rattle.sim_base.specs.Access.{is_access}
use Rattle.sim_base.specs.Places.{bank_in, is_bank, bank_at}
use Rattle.sim_base.specs.Rules.{is_legal, open_row, is_row, kind_of}
use Rattle.sim_base.specs.Scheduling.{needed, needed_at, column_command_to, column_command, source_of, is_column_command, has_hit, is_withheld, is_row_hit, ready_hit, ready_row}
use Rattle.sim_base.proofs.Lists.{eqb-swap}
use Rattle.queue.specs.declared.request_log.Arrived.{Arrived}
use Rattle.queue.specs.Log.{all_requests}
use Rattle.queue.specs.Columns.{bank_number}
use Rattle.queue.specs.declared.bank_candidates.entry.CandidatesOfBank.{CandidatesOfBank}
use Rattle.queue.specs.Candidates.{asks, hits, first_place, AreCandidates}
use Rattle.sim_base.specs.Earlier.{earlier}
use Rattle.sim_base.proofs.Banks.{number_names_bank}
use Rattle.queue.proofs.Searches.{none_everywhere, none_narrower_all}
use Rattle.channel_step.specs.FrFcfs.Requests.{IsInBanks, finds_row_open}
use Rattle.channel_step.specs.declared.fr_fcfs.accesses.Accesses.{Accesses}
use Rattle.channel_step.specs.FrFcfs.Offers.{includes, is_of, column_kind, if_allowed, hit_candidate, oldest_candidate, going, hits_now, row_requests_now, hits_in, row_requests_in, IsReadyFrom, row_kind}
use Rattle.channel_step.proofs.FrFcfs.Legal.{needed_bank, hit_is, column_needed, finds_needed, legal_at, withheld_is}
use Rattle.channel_step.proofs.FrFcfs.Firsts.{same_among, either_among, place_if, same_unless, any_going}

-- the bank of a request, by its number
pub number_is : (ranks : ℕ) (r : Request) (bank : ℕ) → IsInBanks ranks r → is_bank (bank_in r.place) (bank_at bank) ≡ eqb (bank_number r.place) bank
number_is ranks r bank places =
    (λ i. eqb-swap r.place.rank (bank / 16) i && eqb-swap r.place.group (bank / 4 % 4) i && eqb-swap r.place.bank (bank % 4) i)
    ∙ sym (number_names_bank bank (bank_in r.place) places.group places.bank)
    ∙ eqb-swap bank (bank_number r.place)

pub bank_is : (ranks : ℕ) (r : Request) (bank : ℕ) → IsInBanks ranks r → eqb (bank_number r.place) bank ≡ true → bank_in r.place ≡ bank_at bank
bank_is ranks r bank places same =
    let number : bank_number r.place ≡ bank = eqb-true (bank_number r.place) bank same in
    let group_in = places.group in
    let bank_in_group = places.bank in
    let rank : r.place.rank ≡ bank / 16 = omega arith in
    let group : r.place.group ≡ bank / 4 % 4 = omega arith in
    let number_in_group : r.place.bank ≡ bank % 4 = omega arith in
    λ i. record { rank = rank i; group = group i; bank = number_in_group i }

-- a request of a bank asks for its open row
pub row_hit_is : (history : List IssuedCommand) (ranks : ℕ) (r : Request) (bank : ℕ) (row : Option ℕ) → IsInBanks ranks r → row ≡ open_row (bank_at bank) history
    → eqb (bank_number r.place) bank ≡ true → finds_row_open history r ≡ is_row r.place.row row
row_hit_is history ranks r bank row places row_is here =
    hit_is history r ∙ ap (λ b. is_row r.place.row (open_row b history)) (bank_is ranks r bank places here) ∙ ap (is_row r.place.row) (sym row_is)

kind_to : (access : Access) (r : Request) → kind_of (column_command_to access (bank_in r.place) r.place.row r.place.column (source_of r)) ≡ column_kind access
kind_to access.Read r = refl
kind_to access.Write r = refl

pub hit_kind : (history : List IssuedCommand) (r : Request) → finds_row_open history r ≡ true → kind_of (needed history r) ≡ column_kind r.access
unfolding needed
hit_kind history r hit = ap kind_of (column_needed (open_row (bank_in r.place) history) r hit) ∙ kind_to r.access r

pub row_kind_at : (row : Option ℕ) (r : Request) → is_column_command (needed_at row r) ≡ false → kind_of (needed_at row r) ≡ row_kind row
row_kind_at None r other = refl
row_kind_at (Some row) r other = elim (cases_Bool (eqb row r.place.row)) [
  | inl same ↦
      absurd (true≢false (sym (column_any r.access r) ∙ ap is_column_command (sym (cond-true (eqb row r.place.row) (column_command r) (Pre (bank_in r.place) (source_of r)) same)) ∙ other))
  | inr apart ↦ ap kind_of (cond-false (eqb row r.place.row) (column_command r) (Pre (bank_in r.place) (source_of r)) apart)
]
  where
    column_any : (access : Access) (r : Request) → is_column_command (column_command_to access (bank_in r.place) r.place.row r.place.column (source_of r)) ≡ true
    column_any access.Read r = refl
    column_any access.Write r = refl

-- when what a request of a bank needs is legal
pub legal_then : (s : Config) (history : List IssuedCommand) (ranks : ℕ) (r : Request) (bank : ℕ) (k : Kind) (ready : ℕ) → IsInBanks ranks r → IsReadyFrom s history (bank_at bank) k ready
    → eqb (bank_number r.place) bank ≡ true → kind_of (needed history r) ≡ k → (cycle : ℕ) → is_legal s history cycle (needed history r) ≡ leb ready cycle
unfolding needed
legal_then s history ranks r bank k ready places from here kind_is =
    legal_at s history (needed history r) ready
    (from (needed history r) kind_is (needed_bank (open_row (bank_in r.place) history) r ∙ ap Some (bank_is ranks r bank places here)) (finds_needed s history r))

-- some request that goes asks for the open row of the bank
row_hit_test : (b : Bool) (w : Access) (kr kw row_hit : Bool) → (includes (record { reads = kr; writes = kw }) w && (b && row_hit)) ≡ ((kr && ((b && is_access access.Read w) && row_hit)) || (kw && ((b && is_access access.Write w) && row_hit)))
row_hit_test false w kr kw row_hit = and-false (includes (record { reads = kr; writes = kw }) w) ∙ sym (ap (λ t. t || (kw && false)) (and-false kr) ∙ and-false kw)
row_hit_test true access.Write kr kw row_hit = sym (ap (λ t. t || (kw && row_hit)) (and-false kr))
row_hit_test true access.Read kr kw row_hit = sym (ap (λ t. (kr && row_hit) || t) (and-false kw) ∙ or-false (kr && row_hit))

abbrev wants_row : Accesses → ℕ → Option ℕ → Request → Bool
wants_row accesses bank row r = (accesses.reads && hits bank access.Read row r) || (accesses.writes && hits bank access.Write row r)

hit_candidate_is : (ranks : ℕ) (log : List Arrived) (accesses : Accesses) (bank : ℕ) (h : CandidatesOfBank) → All (IsInBanks ranks) (all_requests log) → AreCandidates log bank h
    → first_place (wants_row accesses bank h.row) log ≡ hit_candidate accesses h
hit_candidate_is ranks log accesses bank h places first =
    either_among (wants_row accesses bank h.row) (λ r. accesses.reads && hits bank access.Read h.row r) (λ r. accesses.writes && hits bank access.Write h.row r) (IsInBanks ranks) log places (λ r in_banks. refl)
    ∙ (λ i. earlier (place_if accesses.reads (hits bank access.Read h.row) log i) (place_if accesses.writes (hits bank access.Write h.row) log i))
    ∙ (λ i. earlier (cond accesses.reads ((sym first.reads_are.hit_is) i) None) (cond accesses.writes ((sym first.writes_are.hit_is) i) None))

has_hit_is : (history : List IssuedCommand) (ranks : ℕ) (log : List Arrived) (accesses : Accesses) (bank : ℕ) (h : CandidatesOfBank) → All (IsInBanks ranks) (all_requests log)
    → AreCandidates log bank h → h.row ≡ open_row (bank_at bank) history → has_hit history (going accesses log) (bank_at bank) ≡ is_some (hit_candidate accesses h)
has_hit_is history ranks log accesses bank h places first row_is =
    let row = open_row (bank_at bank) history in
    any_going (λ x. is_row_hit x (bank_at bank) row) accesses log
    ∙ ap is_some
    (same_among (λ x. is_of accesses x && is_row_hit x (bank_at bank) row) (wants_row accesses bank h.row) (IsInBanks ranks) log places
    (λ x in_banks.
    (λ i. is_of accesses x && (number_is ranks x bank in_banks i && is_row x.place.row (row_is' i)))
    ∙ row_hit_test (eqb (bank_number x.place) bank) x.access accesses.reads accesses.writes (is_row x.place.row h.row))
    ∙ hit_candidate_is ranks log accesses bank h places first)
  where
    row_is' : open_row (bank_at bank) history ≡ h.row
    row_is' = sym row_is

row_test : (b : Bool) (w : Access) (kr kw hit row_hit legal ready withheld : Bool) → (b ≡ true → hit ≡ row_hit) → (b ≡ true → hit ≡ false → legal ≡ ready) → (b ≡ true → withheld ≡ false)
    → ((kr && ((b && is_access access.Read w) && row_hit)) || (kw && ((b && is_access access.Write w) && row_hit))) ≡ false
    → (b && (includes (record { reads = kr; writes = kw }) w && ((not hit && legal) && not withheld))) ≡ (((kr && ready) && (b && is_access access.Read w)) || ((kw && ready) && (b && is_access access.Write w)))
row_test false w kr kw hit row_hit legal ready withheld same when free none = sym (ap (λ t. t || ((kw && ready) && false)) (and-false (kr && ready)) ∙ and-false (kw && ready))
row_test true access.Write kr kw hit row_hit legal ready withheld same when free none =
    one_row kw hit row_hit legal ready withheld (same refl) (when refl) (free refl) (ap (λ t. t || (kw && row_hit)) (sym (and-false kr)) ∙ none)
    ∙ sym (ap (λ t. t || ((kw && ready) && true)) (and-false (kr && ready)) ∙ and-true (kw && ready))
  where
    one_row : (k h rh l ready wh : Bool) → h ≡ rh → (h ≡ false → l ≡ ready) → wh ≡ false → (k && rh) ≡ false → (k && ((not h && l) && not wh)) ≡ (k && ready)
    one_row false h rh l ready wh is then free none = refl
    one_row true h rh l ready wh is then free none =
        let off : h ≡ false = is ∙ none in
        (λ i. (not (off i) && then off i) && not (free i)) ∙ and-true ready
row_test true access.Read kr kw hit row_hit legal ready withheld same when free none =
    one_row kr hit row_hit legal ready withheld (same refl) (when refl) (free refl) (sym (or-false (kr && row_hit)) ∙ ap (λ t. (kr && row_hit) || t) (sym (and-false kw)) ∙ none)
    ∙ sym (ap (λ t. ((kr && ready) && true) || t) (and-false (kw && ready)) ∙ or-false ((kr && ready) && true) ∙ and-true (kr && ready))
  where
    one_row : (k h rh l ready wh : Bool) → h ≡ rh → (h ≡ false → l ≡ ready) → wh ≡ false → (k && rh) ≡ false → (k && ((not h && l) && not wh)) ≡ (k && ready)
    one_row false h rh l ready wh is then free none = refl
    one_row true h rh l ready wh is then free none =
        let off : h ≡ false = is ∙ none in
        (λ i. (not (off i) && then off i) && not (free i)) ∙ and-true ready

both_allowed : (ready : Bool) (a b : Option ℕ) (ka kb : Bool)
    → earlier (cond (ka && ready) a None) (cond (kb && ready) b None) ≡ cond ready (earlier (if_allowed a ka) (if_allowed b kb)) None
both_allowed true a b ka kb = λ i. earlier (cond (and-true ka i) a None) (cond (and-true kb i) b None)
both_allowed false a b ka kb = λ i. earlier (cond (and-false ka i) a None) (cond (and-false kb i) b None)

-- the first request of a bank whose ACT or PRE is ready, where none asks for its open row
pub rows_are : (s : Config) (history : List IssuedCommand) (ranks : ℕ) (log : List Arrived) (accesses : Accesses) (bank : ℕ) (h : CandidatesOfBank) (ready : ℕ)
    → All (IsInBanks ranks) (all_requests log) → AreCandidates log bank h → h.row ≡ open_row (bank_at bank) history → IsReadyFrom s history (bank_at bank) (row_kind h.row) ready
    → is_some (hit_candidate accesses h) ≡ false → (cycle : ℕ)
    → row_requests_in s history log accesses bank cycle ≡ cond (leb ready cycle) (oldest_candidate accesses h) None
unfolding ready_row needed
rows_are s history ranks log accesses bank h ready places first row_is from none cycle =
    let cands = going accesses log in
    same_unless (λ r. eqb (bank_number r.place) bank && row_requests_now s history log accesses cycle r)
    (λ r. ((accesses.reads && leb ready cycle) && asks bank access.Read r) || ((accesses.writes && leb ready cycle) && asks bank access.Write r)) (wants_row accesses bank h.row) (IsInBanks ranks) log
    (hit_candidate_is ranks log accesses bank h places first ∙ is_none (hit_candidate accesses h) none) places
    (λ r in_banks off.
    row_test (eqb (bank_number r.place) bank) r.access accesses.reads accesses.writes (finds_row_open history r) (is_row r.place.row h.row) (is_legal s history cycle (needed history r)) (leb ready cycle)
    (is_withheld history cands (needed history r)) (row_hit_is history ranks r bank h.row in_banks row_is)
    (λ here other. legal_then s history ranks r bank (row_kind h.row) ready in_banks from here (kind_here r in_banks here other) cycle)
    (λ here.
    withheld_is history cands r
    ∙ ap (λ b. has_hit history cands b && not (finds_row_open history r)) (bank_is ranks r bank in_banks here)
    ∙ ap (λ b. b && not (finds_row_open history r)) (has_hit_is history ranks log accesses bank h places first row_is ∙ none))
    off)
    ∙ either_among (λ r. ((accesses.reads && leb ready cycle) && asks bank access.Read r) || ((accesses.writes && leb ready cycle) && asks bank access.Write r)) (λ r. (accesses.reads && leb ready cycle) && asks bank access.Read r)
    (λ r. (accesses.writes && leb ready cycle) && asks bank access.Write r) (IsInBanks ranks) log places (λ r in_banks. refl)
    ∙ (λ i. earlier (place_if (accesses.reads && leb ready cycle) (asks bank access.Read) log i) (place_if (accesses.writes && leb ready cycle) (asks bank access.Write) log i))
    ∙ (λ i. earlier (cond (accesses.reads && leb ready cycle) ((sym first.reads_are.oldest_is) i) None) (cond (accesses.writes && leb ready cycle) ((sym first.writes_are.oldest_is) i) None))
    ∙ both_allowed (leb ready cycle) h.reads.oldest h.writes.oldest accesses.reads accesses.writes
  where
    is_none : (o : Option ℕ) → is_some o ≡ false → o ≡ None
    is_none None off = refl
    is_none (Some k) off = cc

    kind_here : (r : Request) → IsInBanks ranks r → eqb (bank_number r.place) bank ≡ true → finds_row_open history r ≡ false → kind_of (needed history r) ≡ row_kind h.row
    kind_here r in_banks here other =
        row_kind_at (open_row (bank_in r.place) history) r other ∙ ap (λ b. row_kind (open_row b history)) (bank_is ranks r bank in_banks here) ∙ ap row_kind (sym row_is)

withheld_test : (b k hit legal withheld : Bool) → (b ≡ true → withheld ≡ (true && not hit)) → (b && (k && ((not hit && legal) && not withheld))) ≡ false
withheld_test false k hit legal withheld is = refl
withheld_test true k true legal withheld is = and-false k
withheld_test true k false legal withheld is = ap (λ w. k && (legal && not w)) (is refl) ∙ ap (λ t. k && t) (and-false legal) ∙ and-false k

-- a row hit that goes withholds all else of its bank
pub rows_withheld : (s : Config) (history : List IssuedCommand) (ranks : ℕ) (log : List Arrived) (accesses : Accesses) (bank : ℕ) (h : CandidatesOfBank) → All (IsInBanks ranks) (all_requests log)
    → AreCandidates log bank h → h.row ≡ open_row (bank_at bank) history → is_some (hit_candidate accesses h) ≡ true → (cycle : ℕ) → row_requests_in s history log accesses bank cycle ≡ None
unfolding ready_row
rows_withheld s history ranks log accesses bank h places first row_is some cycle =
    let cands = going accesses log in
    same_among (λ r. eqb (bank_number r.place) bank && row_requests_now s history log accesses cycle r) (λ r. false) (IsInBanks ranks) log places
    (λ r in_banks.
    withheld_test (eqb (bank_number r.place) bank) (is_of accesses r) (finds_row_open history r) (is_legal s history cycle (needed history r)) (is_withheld history cands (needed history r))
    (λ here.
    withheld_is history cands r
    ∙ ap (λ b. has_hit history cands b && not (finds_row_open history r)) (bank_is ranks r bank in_banks here)
    ∙ ap (λ b. b && not (finds_row_open history r)) (has_hit_is history ranks log accesses bank h places first row_is ∙ some)))
    ∙ sym (none_everywhere (λ r. false) log (λ r. refl))

none_test : (b : Bool) (w : Access) (kr kw test : Bool) → ((kr && (b && is_access access.Read w)) || (kw && (b && is_access access.Write w))) ≡ false → (b && (includes (record { reads = kr; writes = kw }) w && test)) ≡ false
none_test false w kr kw test off = refl
none_test true access.Write true true test off = cc
none_test true access.Write false true test off = cc
none_test true access.Write kr false test off = refl
none_test true access.Read true kw test off = cc
none_test true access.Read false kw test off = refl

-- no request of a bank goes that has no candidate
pub none_offered : (log : List Arrived) (accesses : Accesses) (bank : ℕ) (h : CandidatesOfBank) (test : Request → Bool) → AreCandidates log bank h → oldest_candidate accesses h ≡ None
    → first_place (λ r. eqb (bank_number r.place) bank && (is_of accesses r && test r)) log ≡ None
none_offered log accesses bank h test first none =
    let asked = λ (r : Request). (accesses.reads && asks bank access.Read r) || (accesses.writes && asks bank access.Write r) in
    let candidate_is : first_place asked log ≡ oldest_candidate accesses h =
    either_among asked (λ r. accesses.reads && asks bank access.Read r) (λ r. accesses.writes && asks bank access.Write r) (λ r. Unit {0}) log (λ k d exists. tt) (λ r in_all. refl)
    ∙ (λ i. earlier (place_if accesses.reads (asks bank access.Read) log i) (place_if accesses.writes (asks bank access.Write) log i))
    ∙ (λ i. earlier (cond accesses.reads ((sym first.reads_are.oldest_is) i) None) (cond accesses.writes ((sym first.writes_are.oldest_is) i) None)) in
    sym
    (none_narrower_all (λ r. eqb (bank_number r.place) bank && (is_of accesses r && test r)) asked log
    (λ r off. none_test (eqb (bank_number r.place) bank) r.access accesses.reads accesses.writes (test r) off) (sym (candidate_is ∙ none)))

no_hit_test : (b : Bool) (w : Access) (kr kw hit row_hit legal : Bool) → (b ≡ true → hit ≡ row_hit)
    → ((kr && ((b && is_access access.Read w) && row_hit)) || (kw && ((b && is_access access.Write w) && row_hit))) ≡ false → (b && (includes (record { reads = kr; writes = kw }) w && (hit && legal))) ≡ false
no_hit_test false w kr kw hit row_hit legal same none = refl
no_hit_test true w kr kw hit row_hit legal same none = one (includes (record { reads = kr; writes = kw }) w) hit row_hit legal (same refl) (row_hit_test true w kr kw row_hit ∙ none)
  where
    one : (k h rh l : Bool) → h ≡ rh → (k && rh) ≡ false → (k && (h && l)) ≡ false
    one false h rh l is none = refl
    one true h rh l is none = ap (λ t. t && l) (is ∙ none)

-- no row hit of a bank is ready where there is none
pub no_hits : (s : Config) (history : List IssuedCommand) (ranks : ℕ) (log : List Arrived) (accesses : Accesses) (bank : ℕ) (h : CandidatesOfBank) → All (IsInBanks ranks) (all_requests log)
    → AreCandidates log bank h → h.row ≡ open_row (bank_at bank) history → hit_candidate accesses h ≡ None → (cycle : ℕ) → hits_in s history log accesses bank cycle ≡ None
unfolding ready_hit
no_hits s history ranks log accesses bank h places first row_is none cycle =
    same_unless (λ r. eqb (bank_number r.place) bank && hits_now s history accesses cycle r) (λ r. false) (wants_row accesses bank h.row) (IsInBanks ranks) log
    (hit_candidate_is ranks log accesses bank h places first ∙ none) places
    (λ r in_banks off.
    no_hit_test (eqb (bank_number r.place) bank) r.access accesses.reads accesses.writes (finds_row_open history r) (is_row r.place.row h.row) (is_legal s history cycle (needed history r))
    (row_hit_is history ranks r bank h.row in_banks row_is) off)
    ∙ sym (none_everywhere (λ r. false) log (λ r. refl))

-- What banks offer for the candidates of their queues.
--     includes accesses access, is_of accesses r      requests of an access go; a request is of the accesses that go
--     only access      requests of one access go alone
--     favoured_access draining, other_access access      the favoured access, and the access that is not this one
--     hits_in s history log accesses bank cycle      the place of the first ready row hit of a bank in a cycle
--     row_requests_in s history log accesses bank cycle      place of a bank's first request with a ready ACT or PRE
--     row_requests_beside s history log accesses left cycle      the place of the first such request of all other banks
--     all_hits s history log accesses cycle      the place of the first ready row hit of all banks in a cycle
--     all_row_requests s history log accesses cycle      the place of the first such request of all banks
--     no_place cycle, earlier_each a b cycle      no request, and the first of two, in each cycle
--     oldest_of accesses bank_candidates bank      the first request of a bank, of the accesses that go
--     hit_of accesses bank_candidates bank      the first row hit of a bank, of the accesses that go
--     NeedsRow commands bank_candidates bank      a bank whose row these commands open or close
--     IsBest now hits rows offer      an offer is the first from `now` on
--     IsBestSoFar room now hits rows offer      an offer is the first from `now` on, or stands for none
--     StandsForNone room now offer      an offer stands for none, with nothing looked at so far
--     ForCandidates banks bank_candidates queue accesses fact      a fact of all commands, where these accesses go
--     TakesRows log now old new more, TakesHits log now old new more      the best offer so far takes in more requests
--     TakesRowsOf bank_candidates banks asked commands old new      the best offer takes in what some banks need
--     better_of a b      the one of two offers that goes first
--     IsFirstReady s history queue now offer      an offer is what the first ready request of the queue needs
use Rattle.std.specs.Prelude.{◌≡◌, ℕ, ◌<◌, ◌≤◌, ◌==◌, nat_lt, max, Bool, true, false, not, ◌&&◌, ◌||◌, List, length, filter, Option, is_some, Some, None, option_map, slice_get, if◌then◌else◌}
use Rattle.sim_base.specs.declared.config.Config.{Config}
use Rattle.sim_base.specs.declared.command.Command.{Command}
use Rattle.sim_base.specs.declared.command.IssuedCommand.{IssuedCommand}
use Rattle.sim_base.specs.declared.command.Kind.{Kind}
use Rattle.sim_base.specs.declared.command.Kind.TheVariants as kind
use Rattle.sim_base.specs.declared.message.Access.{Access}
use Rattle.sim_base.specs.declared.message.Access.TheVariants as access
use Rattle.sim_base.specs.declared.message.Request.{Request}
use Rattle.sim_base.specs.declared.place.BankId.{BankId}
use Rattle.sim_base.specs.Rules.{kind_of, bank_of, finds_its_banks}
use Rattle.sim_base.specs.Scheduling.{needed, is_column_command, ready_hit, ready_row, first_of_lines, first_ready}
use Rattle.bank_ready.specs.declared.banks.Banks.{Banks}
use Rattle.queue.specs.declared.request_log.Arrived.{Arrived}
use Rattle.queue.specs.Log.{waiting_requests, all_requests, waits_at}
use Rattle.queue.specs.Columns.{bank_number}
use Rattle.queue.specs.View.{QueueView}
use Rattle.queue.specs.declared.bank_candidates.entry.CandidatesOfBank.{CandidatesOfBank}
use Rattle.queue.specs.declared.bank_candidates.all_banks.BankCandidates.{BankCandidates}
use Rattle.queue.specs.declared.bank_candidates.sets.BankSet.{BankSet}
use Rattle.queue.specs.Candidates.{first_place, rows_after}
use Rattle.sim_base.specs.Earlier.{earlier}
use Rattle.queue.specs.Sets.{is_in}
use Rattle.queue.specs.Stands.{candidates_of_bank, row_of_bank, StandsFor as CandidatesStandFor}
use Rattle.channel_step.specs.declared.fr_fcfs.accesses.Accesses.{Accesses}
use Rattle.channel_step.specs.declared.fr_fcfs.first.RowCommands.{RowCommands}
use Rattle.channel_step.specs.declared.fr_fcfs.offers.Offer.{Offer}
use Rattle.channel_step.specs.FrFcfs.Requests.{IsLegalFrom, StandForLog, candidates_of}
use Rattle.bank_ready.specs.Stands.{StandsFor as BanksStandFor}

-- requests of an access go
abbrev pub includes : Accesses → Access → Bool
includes accesses access.Read = accesses.reads
includes accesses access.Write = accesses.writes

-- a request is of the accesses that go
abbrev pub is_of : Accesses → Request → Bool
is_of accesses r = includes accesses r.access

-- requests of one access go alone
abbrev pub only : Access → Accesses
only access.Read = record { reads = true; writes = false }
only access.Write = record { reads = false; writes = true }

-- the favoured access: to write while a channel drains its writes, and to read while it does not
abbrev pub favoured_access : Bool → Access
favoured_access true = access.Write
favoured_access false = access.Read

-- the access that is not this one
abbrev pub other_access : Access → Access
other_access access.Read = access.Write
other_access access.Write = access.Read

-- reads and writes both go
abbrev pub all_accesses : Accesses
all_accesses = record { reads = true; writes = true }

-- the kind of the column command for an access
abbrev pub column_kind : Access → Kind
column_kind access.Read = kind.Rd
column_kind access.Write = kind.Wr

-- a candidate, if its access goes
abbrev pub if_allowed : Option ℕ → Bool → Option ℕ
if_allowed candidate allowed = if allowed then candidate else None

-- the first row hit of a bank, of the accesses that go
abbrev pub hit_candidate : Accesses → CandidatesOfBank → Option ℕ
hit_candidate accesses bank_candidates =
    earlier (if_allowed bank_candidates.reads.hit accesses.reads)
    (if_allowed bank_candidates.writes.hit accesses.writes)

-- the first request of a bank, of the accesses that go
abbrev pub oldest_candidate : Accesses → CandidatesOfBank → Option ℕ
oldest_candidate accesses bank_candidates =
    earlier (if_allowed bank_candidates.reads.oldest accesses.reads)
    (if_allowed bank_candidates.writes.oldest accesses.writes)

-- the first request of the bank with a number, of the accesses that go
abbrev pub oldest_of : Accesses → BankCandidates → ℕ → Option ℕ
oldest_of accesses bank_candidates bank = oldest_candidate accesses (candidates_of_bank bank_candidates bank)

-- the first row hit of the bank with a number, of the accesses that go
abbrev pub hit_of : Accesses → BankCandidates → ℕ → Option ℕ
hit_of accesses bank_candidates bank = hit_candidate accesses (candidates_of_bank bank_candidates bank)

-- the requests that may be served, of the accesses that go
abbrev pub going : Accesses → List Arrived → List Request
going accesses log = filter (is_of accesses) (first_of_lines (waiting_requests log))

-- a row hit, of the accesses that go, that is ready in a cycle
abbrev pub hits_now : Config → List IssuedCommand → Accesses → ℕ → Request → Bool
hits_now s history accesses cycle r = is_of accesses r && ready_hit s history cycle r

-- a request, of the accesses that go, for which an ACT or a PRE may be issued in a cycle
abbrev pub row_requests_now : Config → List IssuedCommand → List Arrived → Accesses → ℕ → Request → Bool
row_requests_now s history log accesses cycle r = is_of accesses r && ready_row s history cycle (going accesses log) r

-- the place of the first row hit of a bank that is ready in a cycle
abbrev pub hits_in : Config → List IssuedCommand → List Arrived → Accesses → ℕ → ℕ → Option ℕ
hits_in s history log accesses bank cycle =
    first_place (λ r. (bank_number r.place == bank) && hits_now s history accesses cycle r) log

-- the place of the first request of a bank for which an ACT or a PRE may be issued in a cycle
abbrev pub row_requests_in : Config → List IssuedCommand → List Arrived → Accesses → ℕ → ℕ → Option ℕ
row_requests_in s history log accesses bank cycle =
    first_place (λ r. (bank_number r.place == bank) && row_requests_now s history log accesses cycle r) log

-- the place of the first ready row hit of all banks in a cycle
abbrev pub all_hits : Config → List IssuedCommand → List Arrived → Accesses → ℕ → Option ℕ
all_hits s history log accesses = λ cycle. first_place (hits_now s history accesses cycle) log

-- the place of the first ready row hit of one access in a cycle, or none if its requests do not go
abbrev pub hits_if : Bool → Config → List IssuedCommand → List Arrived → Access → ℕ → Option ℕ
hits_if goes s history log access = λ cycle. first_place (λ r. goes && hits_now s history (only access) cycle r) log

-- the place of the first request of all banks for which an ACT or a PRE may be issued in a cycle
abbrev pub all_row_requests : Config → List IssuedCommand → List Arrived → Accesses → ℕ → Option ℕ
all_row_requests s history log accesses = λ cycle. first_place (row_requests_now s history log accesses cycle) log

-- no request in any cycle
abbrev pub no_place : ℕ → Option ℕ
no_place = λ cycle. None

-- in each cycle the first of two places
abbrev pub earlier_each : (ℕ → Option ℕ) → (ℕ → Option ℕ) → ℕ → Option ℕ
earlier_each a b = λ cycle. earlier (a cycle) (b cycle)

-- the place of the first request for which an ACT or a PRE may be issued in a cycle, of all banks but those that are
-- left out
abbrev pub row_requests_beside : Config → List IssuedCommand → List Arrived → Accesses → (ℕ → Bool) → ℕ → Option ℕ
row_requests_beside s history log accesses left cycle =
    first_place (λ r. not (left (bank_number r.place)) && row_requests_now s history log accesses cycle r) log

-- the first row hit is at this place, or there is no row hit and the first other ready request is there
abbrev pub IsAt : Bool → Option ℕ → Option ℕ → ℕ → Type 0
IsAt true hits rows place = hits ≡ Some place
IsAt false hits rows place = (hits ≡ None) × (rows ≡ Some place)

-- An offer is the first from `now` on, where in each cycle the first ready row hit and the first other ready request
-- have these places: nothing is ready before its cycle.
pub record IsBestOffer (now : ℕ) (hits rows : ℕ → Option ℕ) (o : Offer) : Type 0 where
  pub from_now : now ≤ o.cycle
  pub none_before : (cycle : ℕ) → now ≤ cycle → cycle < o.cycle → (hits cycle ≡ None) × (rows cycle ≡ None)
  pub then_is : IsAt o.hit (hits o.cycle) (rows o.cycle) o.place

-- An offer is the first from `now` on, by the places in each cycle, or there is none and nothing is ever ready.
abbrev pub IsBest : ℕ → (ℕ → Option ℕ) → (ℕ → Option ℕ) → Option Offer → Type 0
IsBest now hits rows None = (cycle : ℕ) → now ≤ cycle → (hits cycle ≡ None) × (rows cycle ≡ None)
IsBest now hits rows (Some o) = IsBestOffer now hits rows o

-- An offer goes before another if its cycle is earlier, or in the same cycle if it alone is a row hit, or else if its
-- request is older.
abbrev pub goes_before : Offer → Offer → Bool
goes_before a b =
    if a.cycle == b.cycle
    then (if a.hit
    then (if b.hit then nat_lt a.place b.place else true)
    else (if b.hit then false else nat_lt a.place b.place))
    else nat_lt a.cycle b.cycle

-- the one of two offers that goes first
abbrev pub better_of : Offer → Offer → Offer
better_of a b = if goes_before a b then a else b

-- what stands for no offer, where there are `room` places: all offers go before it
abbrev pub no_offer : ℕ → Offer
no_offer room = record { cycle = 18446744073709551615; hit = false; place = room }

-- an offer, if it has one of `room` places
abbrev pub if_within : ℕ → Offer → Option Offer
if_within room o = if nat_lt o.place room then Some o else None

-- An offer is the first from `now` on, or stands for none where there is none.
pub record IsBestSoFar (room now : ℕ) (hits rows : ℕ → Option ℕ) (o : Offer) : Type 0 where
  pub none : room ≤ o.place → o ≡ no_offer room
  pub best : IsBest now hits rows (if_within room o)

-- an offer stands for none: nothing was looked at so far
abbrev pub StandsForNone : ℕ → ℕ → Offer → Type 0
StandsForNone room now o = IsBestSoFar room now no_place no_place o

-- The best offer so far takes in further requests for which an ACT or a PRE may be issued, of which the first of each
-- cycle has this place.
abbrev pub TakesRows : List Arrived → ℕ → Offer → Offer → (ℕ → Option ℕ) → Type 0
TakesRows log now old new more =
    (hits rows : ℕ → Option ℕ) → IsBestSoFar (length log) now hits rows old
    → IsBestSoFar (length log) now hits (earlier_each rows more) new

-- The best offer so far takes in further row hits, of which the first of each cycle has this place.
abbrev pub TakesHits : List Arrived → ℕ → Offer → Offer → (ℕ → Option ℕ) → Type 0
TakesHits log now old new more =
    (hits rows : ℕ → Option ℕ) → IsBestSoFar (length log) now hits rows old
    → IsBestSoFar (length log) now (earlier_each hits more) rows new

-- the offer of a request whose need may be issued from a cycle on
abbrev pub offer_from : ℕ → ℕ → Bool → ℕ → Offer
offer_from now ready hit place = record { cycle = max now ready; hit = hit; place = place }

-- from which cycle on commands of a kind may be issued to a bank, if they find the bank as they should
abbrev pub IsReadyFrom : Config → List IssuedCommand → BankId → Kind → ℕ → Type 0
IsReadyFrom s history bank kind ready =
    (command : Command) → kind_of command ≡ kind → bank_of command ≡ Some bank
    → finds_its_banks s history command ≡ true → IsLegalFrom s history command ready

-- the kind of the command that closes a bank in which a row is open, or opens one in which none is
abbrev pub row_kind : Option ℕ → Kind
row_kind (Some row) = kind.Pre
row_kind None = kind.Act

-- Some request of the accesses that go asks for a bank, and none for its open row. Commands of this kind close that
-- row, or open one where none is open.
pub record NeedsRow (commands : RowCommands) (bank_candidates : BankCandidates) (bank : ℕ) : Type 0 where
  pub some : is_some (oldest_of commands.accesses bank_candidates bank) ≡ true
  pub no_hit : is_some (hit_of commands.accesses bank_candidates bank) ≡ false
  pub kind_is : commands.kind ≡ row_kind (row_of_bank bank_candidates bank)

-- the banks that are asked for, and those that are left out
abbrev pub with_skipped : (ℕ → Bool) → (ℕ → Bool) → ℕ → Bool
with_skipped asked left = λ bank. asked bank || left bank

-- none of the banks that are asked for is left out
abbrev pub AreNotSkipped : (ℕ → Bool) → (ℕ → Bool) → Type 0
AreNotSkipped asked left = (bank : ℕ) → asked bank ≡ true → left bank ≡ false

-- The best offer so far, in which the banks `asked` were left out, beside others, takes in what opens or closes their
-- rows.
abbrev pub TakesRowsOf : BankCandidates → Banks → BankSet → RowCommands → Offer → Offer → Type 0
TakesRowsOf bank_candidates banks asked commands old new =
    (s : Config) (history : List IssuedCommand) (log : List Arrived) (hits : ℕ → Option ℕ) (left : ℕ → Bool)
    → StandForLog bank_candidates banks s history log → AreNotSkipped (is_in asked) left
    → IsBestSoFar (length log) commands.now hits
    (row_requests_beside s history log commands.accesses (with_skipped (is_in asked) left)) old
    → IsBestSoFar (length log) commands.now hits (row_requests_beside s history log commands.accesses left) new

-- An offer is what the first ready request, from `now` on, needs: a column command or none. That request waits.
pub record IsReadyAt (s : Config) (history : List IssuedCommand) (queue : QueueView) (now : ℕ) (o : Offer)
    : Type 0 where
  pub from_now : now ≤ o.cycle
  pub none_before : (cycle : ℕ) → now ≤ cycle → cycle < o.cycle
      → first_ready s history cycle (candidates_of s queue) ≡ None
  pub then_is : first_ready s history o.cycle (candidates_of s queue)
      ≡ option_map (needed history) (slice_get (all_requests queue.log) o.place)
  pub waits : waits_at queue.log o.place ≡ true
  pub hit_is : (r : Request) → slice_get (all_requests queue.log) o.place ≡ Some r
      → is_column_command (needed history r) ≡ o.hit

-- An offer is what the first ready request, from `now` on, needs, or there is none and no request is ever ready.
abbrev pub IsFirstReady : Config → List IssuedCommand → QueueView → ℕ → Option Offer → Type 0
IsFirstReady s history queue now None =
    (cycle : ℕ) → now ≤ cycle → first_ready s history cycle (candidates_of s queue) ≡ None
IsFirstReady s history queue now (Some o) = IsReadyAt s history queue now o

-- a fact of each configuration and each list of commands that banks and the candidates of a queue stand for, where the
-- requests that may be served next are those of the accesses that go
abbrev pub ForCandidates : Banks → BankCandidates → QueueView → Accesses
    → (Config → List IssuedCommand → Type 0) → Type 0
ForCandidates banks bank_candidates queue accesses fact =
    (s : Config) (history : List IssuedCommand) → BanksStandFor banks s history
    → CandidatesStandFor bank_candidates queue.log (rows_after history)
    → candidates_of s queue ≡ going accesses queue.log → fact s history

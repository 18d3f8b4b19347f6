-- What a request needs, and which requests may be served next.
--     IsInBanks ranks r      a request asks for a bank that exists
--     AreInBanks ranks log      each request of a log asks for a bank that exists
--     IsOfBank bank_candidates r      a request asks for a bank that has candidates
--     OfSameBanks bank_candidates banks      candidates and banks are of the same ranks
--     KnowsRows bank_candidates history      candidates that know which rows are open
--     StandForLog bank_candidates banks s history log      candidates and banks stand for a log after these commands
--     ForLogs banks bank_candidates fact      a fact of each log and its commands for which banks and candidates stand
--     ForRequests banks bank_candidates queue fact      a fact of all commands for which banks and candidates stand
--     IsLegalFrom s history command cycle      from which cycle on a command may be issued
--     finds_row_open history r      a request waits for its data alone
--     candidates_of s queue      the requests that may be served next
--     first_ready_in s history queue cycle      the command that the first ready request of a queue needs
use Rattle.std.specs.Prelude.{◌≡◌, ℕ, ◌*◌, ◌<◌, ◌≤◌, ◌↔◌, Bool, IsTrue, List, Option, All}
use Rattle.sim_base.specs.declared.config.Config.{Config}
use Rattle.sim_base.specs.declared.command.Command.{Command}
use Rattle.sim_base.specs.declared.command.IssuedCommand.{IssuedCommand}
use Rattle.sim_base.specs.declared.message.Request.{Request}
use Rattle.sim_base.specs.Places.{bank_in}
use Rattle.sim_base.specs.Rules.{is_legal}
use Rattle.sim_base.specs.Scheduling.{needed, is_column_command, candidates, first_ready}
use Rattle.queue.specs.declared.request_log.Arrived.{Arrived}
use Rattle.queue.specs.Log.{waiting_requests, all_requests}
use Rattle.bank_ready.specs.declared.banks.Banks.{Banks}
use Rattle.bank_ready.specs.Stands.{rank_count, StandsFor as BanksStandFor}
use Rattle.queue.specs.declared.bank_candidates.all_banks.BankCandidates.{BankCandidates}
use Rattle.queue.specs.Candidates.{rows_after}
use Rattle.queue.specs.Stands.{bank_count, IsBankOf, StandsFor as CandidatesStandFor}
use Rattle.queue.specs.View.{QueueView, is_draining}

-- a request asks for a bank of `ranks` ranks, each with at most four groups of four banks
pub record IsInBanks (ranks : ℕ) (r : Request) : Type 0 where
  pub rank : r.place.rank < ranks
  pub group : r.place.group < 4
  pub bank : r.place.bank < 4

-- each request of a log asks for a bank of `ranks` ranks
abbrev pub AreInBanks : ℕ → List Arrived → Type 0
AreInBanks ranks log = All (IsInBanks ranks) (all_requests log)

-- a request asks for a bank that has candidates
abbrev pub IsOfBank : BankCandidates → Request → Type 0
IsOfBank bank_candidates r = IsBankOf bank_candidates (bank_in r.place)

-- candidates and banks are of the same ranks, of 16 banks each
abbrev pub OfSameBanks : BankCandidates → Banks → Type 0
OfSameBanks bank_candidates banks = bank_count bank_candidates ≡ 16 * rank_count banks

-- candidates that stand for some log, and for the rows that are open after a history
pub record KnowsRows (bank_candidates : BankCandidates) (history : List IssuedCommand) : Type 0 where
  pub log : List Arrived
  pub stands : CandidatesStandFor bank_candidates log (rows_after history)

-- After a list of commands banks and candidates are as these commands and a log make them, and each request of the
-- log asks for one of the banks.
pub record StandForLog (bank_candidates : BankCandidates) (banks : Banks) (s : Config) (history : List IssuedCommand)
    (log : List Arrived) : Type 0 where
  pub banks_stand : BanksStandFor banks s history
  pub candidates_stand : CandidatesStandFor bank_candidates log (rows_after history)
  pub in_banks : AreInBanks (rank_count banks) log

-- a fact of each configuration, list of commands and log that banks and candidates stand for
abbrev pub ForLogs : Banks → BankCandidates → (Config → List IssuedCommand → List Arrived → Type 0) → Type 0
ForLogs banks bank_candidates fact =
    (s : Config) (history : List IssuedCommand) (log : List Arrived)
    → StandForLog bank_candidates banks s history log → fact s history log

-- a fact of each configuration, with the queue's `high`, and each list of commands that banks and the candidates of a
-- queue stand for
abbrev pub ForRequests : Banks → BankCandidates → QueueView → (Config → List IssuedCommand → Type 0) → Type 0
ForRequests banks bank_candidates queue fact =
    (s : Config) (history : List IssuedCommand) → BanksStandFor banks s history
    → CandidatesStandFor bank_candidates queue.log (rows_after history) → s.write_high ≡ queue.high → fact s history

-- from this cycle on, and not before, a command may be issued after a history
abbrev pub IsLegalFrom : Config → List IssuedCommand → Command → ℕ → Type 0
IsLegalFrom s history command cycle = (now : ℕ) → (cycle ≤ now) ↔ IsTrue (is_legal s history now command)

-- a request waits for nothing but its data
abbrev pub finds_row_open : List IssuedCommand → Request → Bool
finds_row_open history r = is_column_command (needed history r)

-- the requests that may be served next
abbrev pub candidates_of : Config → QueueView → List Request
candidates_of s queue = candidates s (is_draining queue) (waiting_requests queue.log)

-- the command that the first ready request of a queue needs in a cycle, if one is ready then
abbrev pub first_ready_in : Config → List IssuedCommand → QueueView → ℕ → Option Command
first_ready_in s history queue = λ cycle. first_ready s history cycle (candidates_of s queue)

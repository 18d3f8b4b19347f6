-- What the candidates of a channel stand for.
--     bank_count candidates      for how many banks the candidates were made
--     candidates_of_bank candidates bank      the candidates of a bank
--     candidates_to candidates bank access      the candidates of a bank and an access
--     oldest_of_bank candidates bank      the first request of a bank that may be served
--     row_of_bank candidates bank      the open row of a bank
--     StandsFor candidates log open_rows      the candidates are those of a log, where these rows are open
--     StandsUpTo candidates log unblocked open_rows      the candidates stand for a log but for the unblocked request
--     TakesInArrival old new request place eligible      the candidates take in a request behind all others
--     with_row number row open_rows      the rows that are open once one bank has this row
--     closed_in rank open_rows      the rows that are open once a rank is closed
use Rattle.std.specs.Prelude.{◌≡◌, ℕ, ◌/◌, ◌<◌, ◌==◌, Bool, true, not, List, [], ◌∷◌, ◌++◌, length, slice_index_or, All, Option, None, if◌then◌else◌}
use Rattle.sim_base.specs.declared.message.Access.{Access}
use Rattle.sim_base.specs.declared.message.Access.TheVariants as access
use Rattle.sim_base.specs.declared.message.Request.{Request}
use Rattle.sim_base.specs.declared.place.BankId.{BankId}
use Rattle.sim_base.specs.Scheduling.{asks_for_line}
use Rattle.queue.specs.declared.request_log.Arrived.{Arrived}
use Rattle.queue.specs.Log.{all_requests, waiting_requests}
use Rattle.queue.specs.Columns.{bank_number}
use Rattle.queue.specs.declared.bank_candidates.entry.AccessCandidates.{AccessCandidates}
use Rattle.queue.specs.declared.bank_candidates.entry.CandidatesOfBank.{CandidatesOfBank}
use Rattle.queue.specs.declared.bank_candidates.all_banks.BankCandidates.{BankCandidates}
use Rattle.queue.specs.Candidates.{access_number, RowsFit, access_count, AreCandidates}
use Rattle.sim_base.specs.Places.{number_of_bank}
use Rattle.sim_base.specs.Earlier.{earlier}
use Rattle.queue.specs.Served.{AreFirstWith}
use Rattle.queue.specs.Words.{access_in}

-- for how many banks the candidates of a channel were made
abbrev pub bank_count : BankCandidates → ℕ
bank_count candidates = length candidates.rows.items

-- the candidates of a bank by its number, and its open row; none where there is no such bank
abbrev pub candidates_of_bank : BankCandidates → ℕ → CandidatesOfBank
candidates_of_bank candidates bank =
    record {
      row = slice_index_or candidates.rows.items bank None;
      reads = access_in candidates.candidate_words.words.items (access_number bank access.Read);
      writes = access_in candidates.candidate_words.words.items (access_number bank access.Write);
    }

-- the candidates of a bank to write, or to read
abbrev pub candidates_to : BankCandidates → ℕ → Access → AccessCandidates
candidates_to candidates bank access.Read = (candidates_of_bank candidates bank).reads
candidates_to candidates bank access.Write = (candidates_of_bank candidates bank).writes

-- the first request of a bank that may be served, to read or to write
abbrev pub oldest_of_bank : BankCandidates → ℕ → Option ℕ
oldest_of_bank candidates bank =
    earlier (candidates_to candidates bank access.Read).oldest (candidates_to candidates bank access.Write).oldest

-- the row that is open in a bank
abbrev pub row_of_bank : BankCandidates → ℕ → Option ℕ
row_of_bank candidates bank = (candidates_of_bank candidates bank).row

-- Every request asks for one of the banks, and for a row of 32 bits; the row of each bank is the one that is open, each
-- candidate is the place of the first request of its bank and access that may be served, or of the first of these for
-- the open row, and each counter says how many requests that wait ask for its bank and access.
pub record StandsFor (candidates : BankCandidates) (log : List Arrived) (open_rows : ℕ → Option ℕ) : Type 0 where
  pub within : All (λ r. bank_number r.place < bank_count candidates) (all_requests log)
  pub rows_fit : RowsFit (all_requests log)
  pub rows_are : (bank : ℕ) → bank < bank_count candidates → row_of_bank candidates bank ≡ open_rows bank
  pub candidates_are : (bank : ℕ) → bank < bank_count candidates
      → AreCandidates log bank (candidates_of_bank candidates bank)
  pub counts_are : (number : ℕ) → number < length candidates.counts.items
      → slice_index_or candidates.counts.items number 0 ≡ access_count number (waiting_requests log)

-- The candidates of all banks will stand for a log once the request at place `unblocked` is taken in, which may be
-- served since another one was, if there is one.
pub record StandsUpTo (candidates : BankCandidates) (log : List Arrived) (unblocked : Option ℕ)
    (open_rows : ℕ → Option ℕ) : Type 0 where
  pub within : All (λ r. bank_number r.place < bank_count candidates) (all_requests log)
  pub rows_fit : RowsFit (all_requests log)
  pub rows_are : (bank : ℕ) → bank < bank_count candidates → row_of_bank candidates bank ≡ open_rows bank
  pub candidates_are : (bank : ℕ) (access : Access) → bank < bank_count candidates
      → AreFirstWith log bank access (open_rows bank) unblocked
      (access_in candidates.candidate_words.words.items (access_number bank access))
  pub counts_are : (number : ℕ) → number < length candidates.counts.items
      → slice_index_or candidates.counts.items number 0 ≡ access_count number (waiting_requests log)

-- Candidates that stand for a log stand, once they have taken in this request, for the log with the request behind it,
-- at this place. The request is eligible if it may be served: no request that waits is for its line.
abbrev pub TakesInArrival : BankCandidates → BankCandidates → Request → ℕ → Bool → Type 0
TakesInArrival old new request place eligible =
    (older : List Arrived) (a : Arrived) (open_rows : ℕ → Option ℕ)
    → place ≡ length older → request ≡ a.request → a.waits ≡ true
    → eligible ≡ not (asks_for_line a.request.place (waiting_requests older))
    → StandsFor old older open_rows → StandsFor new (older ++ a ∷ []) open_rows

-- the rows that are open once the bank with a number has this row
abbrev pub with_row : ℕ → Option ℕ → (ℕ → Option ℕ) → ℕ → Option ℕ
with_row number row open_rows bank = if bank == number then row else open_rows bank

-- the rows that are open once each bank of a rank is closed
abbrev pub closed_in : ℕ → (ℕ → Option ℕ) → ℕ → Option ℕ
closed_in rank open_rows bank = if bank / 16 == rank then None else open_rows bank

-- a bank that has candidates
pub record IsBankOf (candidates : BankCandidates) (b : BankId) : Type 0 where
  pub number : number_of_bank b < bank_count candidates
  pub group : b.group < 4
  pub bank : b.bank < 4

-- What the candidates of a log stand for.
--     asks bank access r      a request asks to write to a bank, or to read from it
--     asks_at bank access log place      the request at a place asks to write to a bank, or to read from it
--     hits bank access row r      a request asks for a bank and an access, and for the row that is open in the bank
--     asks_row row r      a request asks for this row, if one is given
--     wants bank access row r      a request asks for a bank and an access, and for this row if one is given
--     HasFewBanks log      each request asks for one of the first 64 banks
--     RowsFit requests      each request asks for a row whose number has 32 bits
--     first_place test log      the place of the first request that may be served and passes a test
--     NonePasses test log      no request that waits passes a test
--     bank_asked_at log place      the bank of the request at a place
--     rows_after history      the rows that a list of commands leaves open, by the number of their bank
--     access_number bank access, access_number_of r      the number of a bank and an access, and of those of a request
--     access_count number requests      how many requests ask for a bank and an access
--     NoneWaits log bank access      no request that waits asks for a bank and an access
--     AreCandidates log bank candidates      a bank's candidates are its first requests that may be served, by place
use Rattle.std.specs.Prelude.{◌≡◌, ℕ, ◌+◌, ◌*◌, ◌^◌, ◌<◌, ◌==◌, Bool, false, true, ◌&&◌, List, All, count_by, slice_index_or, position, Option, Some, None}
use Rattle.std.specs.List.{zip}
use Rattle.sim_base.specs.Access.{is_access}
use Rattle.sim_base.specs.declared.message.Access.{Access}
use Rattle.sim_base.specs.declared.message.Access.TheVariants as access
use Rattle.sim_base.specs.declared.message.Request.{Request}
use Rattle.sim_base.specs.Rules.{is_row, open_row}
use Rattle.sim_base.specs.declared.command.IssuedCommand.{IssuedCommand}
use Rattle.queue.specs.declared.request_log.Arrived.{Arrived}
use Rattle.queue.specs.Marks.{is_marked, write_bit}
use Rattle.queue.specs.Log.{absent, all_requests, waiting_requests, eligible_column}
use Rattle.queue.specs.Columns.{bank_number}
use Rattle.queue.specs.declared.bank_candidates.entry.AccessCandidates.{AccessCandidates}
use Rattle.queue.specs.declared.bank_candidates.entry.CandidatesOfBank.{CandidatesOfBank}
use Rattle.sim_base.specs.Places.{bank_at}

-- a request asks to write to a bank, or to read from it
abbrev pub asks : ℕ → Access → Request → Bool
asks bank access r = (bank_number r.place == bank) && is_access access r.access

-- the request at a place asks to write to a bank, or to read from it
abbrev pub asks_at : ℕ → Access → List Arrived → ℕ → Bool
asks_at bank access log place = asks bank access (slice_index_or log place absent).request

-- a request asks to write to a bank, or to read from it, and for the row that is open there
abbrev pub hits : ℕ → Access → Option ℕ → Request → Bool
hits bank access row r = asks bank access r && is_row r.place.row row

-- a request asks for a row, if one is given
abbrev pub asks_row : Option ℕ → Request → Bool
asks_row None r = true
asks_row (Some row) r = r.place.row == row

-- a request asks to write to a bank, or to read from it, and for a row if one is given
abbrev pub wants : ℕ → Access → Option ℕ → Request → Bool
wants bank access None r = asks bank access r
wants bank access (Some row) r = asks bank access r && (r.place.row == row)

-- each request asks for one of the first 64 banks, so that the number modulo 64 tells which
abbrev pub HasFewBanks : List Arrived → Type 0
HasFewBanks log = All (λ r. bank_number r.place < 64) (all_requests log)

-- each request asks for a row whose number has 32 bits
abbrev pub RowsFit : List Request → Type 0
RowsFit requests = All (λ r. r.place.row < 2 ^ 32) requests

-- a request at a place of the log may be served, and passes a test
abbrev pub passes : (Request → Bool) → Request × ℕ → Bool
passes test e = is_marked e.1 && test e.0

-- all requests that have arrived, each with its mark
abbrev pub marked_requests : List Arrived → List (Request × ℕ)
marked_requests log = zip (all_requests log) (eligible_column log)

-- the place of the first request that may be served and passes a test
abbrev pub first_place : (Request → Bool) → List Arrived → Option ℕ
first_place test log = position (passes test) (marked_requests log)

-- no request that waits passes a test
abbrev pub NonePasses : (Request → Bool) → List Arrived → Type 0
NonePasses test log = All (λ r. test r ≡ false) (waiting_requests log)

-- the number of the bank that the request at a place asks for
abbrev pub bank_asked_at : List Arrived → ℕ → ℕ
bank_asked_at log place = bank_number (slice_index_or log place absent).request.place

-- the rows that a list of commands leaves open, by the number of their bank
abbrev pub rows_after : List IssuedCommand → ℕ → Option ℕ
rows_after history = λ number. open_row (bank_at number) history

-- the number of a bank and an access: twice that of the bank, plus one for a write
abbrev pub access_number : ℕ → Access → ℕ
access_number bank access = bank * 2 + write_bit access

-- the number of the bank and the access of a request
abbrev pub access_number_of : Request → ℕ
access_number_of r = access_number (bank_number r.place) r.access

-- how many requests ask for the bank and the access with a number
abbrev pub access_count : ℕ → List Request → ℕ
access_count number requests = count_by (λ r. access_number_of r == number) requests

-- no request that waits asks for a bank and an access
abbrev pub NoneWaits : List Arrived → ℕ → Access → Type 0
NoneWaits log bank access = access_count (access_number bank access) (waiting_requests log) ≡ 0

-- the candidates of a bank to read or to write are the places of its first request that may be served and of the first
-- of these that asks for `row`, the open row of the bank, if one is open
pub record AreFirst (log : List Arrived) (bank : ℕ) (access : Access) (row : Option ℕ) (candidates : AccessCandidates)
    : Type 0 where
  pub oldest_is : candidates.oldest ≡ first_place (asks bank access) log
  pub hit_is : candidates.hit ≡ first_place (hits bank access row) log

-- the candidates of a bank to read and to write are the places of its first requests that may be served
pub record AreCandidates (log : List Arrived) (bank : ℕ) (candidates : CandidatesOfBank) : Type 0 where
  pub reads_are : AreFirst log bank access.Read candidates.row candidates.reads
  pub writes_are : AreFirst log bank access.Write candidates.row candidates.writes

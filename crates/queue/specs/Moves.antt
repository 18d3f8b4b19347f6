-- Places in a log, one against another.
--     before place candidate      a place, if it stands before another
--     NonePassesBefore test log place      no request before a place may be served and passes a test
--     IsFirstFrom test log from found      what a search from a place on finds
--     IsFirstHit log bank access row oldest hit      the first request for the open row that may be served
use Rattle.std.specs.Prelude.{◌≡◌, ℕ, ◌<◌, nat_lt, Bool, false, List, length, slice_index_or, Option, Some, None, if◌then◌else◌}
use Rattle.sim_base.specs.declared.message.Access.{Access}
use Rattle.sim_base.specs.declared.message.Request.{Request}
use Rattle.queue.specs.declared.request_log.Arrived.{Arrived}
use Rattle.queue.specs.Candidates.{HasFewBanks, asks, hits, passes, marked_requests, first_place}

-- a place `k`, if it stands before `place`
abbrev pub before : ℕ → Option ℕ → Option ℕ
before place None = None
before place (Some k) = if nat_lt k place then Some k else None

-- no request before a place may be served and passes a test
abbrev pub NonePassesBefore : (Request → Bool) → List Arrived → ℕ → Type 0
NonePassesBefore test log place =
    (k : ℕ) (d : Request × ℕ) → k < place → k < length log
    → passes test (slice_index_or (marked_requests log) k d) ≡ false

-- What a search from place `from` on finds: the first request that may be served and passes a test, where none before
-- that place does.
abbrev pub IsFirstFrom : (Request → Bool) → List Arrived → ℕ → Option ℕ → Type 0
IsFirstFrom test log from found = NonePassesBefore test log from → found ≡ first_place test log

-- The first request of a bank and an access that may be served and asks for the open row `row`, where `oldest` is the
-- first one that may be served, whatever row it asks for, and all ask for the first 64 banks.
abbrev pub IsFirstHit : List Arrived → ℕ → Access → Option ℕ → Option ℕ → Option ℕ → Type 0
IsFirstHit log bank access row oldest hit =
    HasFewBanks log → oldest ≡ first_place (asks bank access) log → hit ≡ first_place (hits bank access row) log

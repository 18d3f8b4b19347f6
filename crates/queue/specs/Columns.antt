-- What is kept beside a log: a tag for each of its requests, and counters of those that wait.
--     bank_number place      the number of a bank
--     tag_word eligible access bank      one byte: may it be served, does it write, and its bank modulo 64
--     served_tag      the tag of a request that was served
--     tag_of eligible a      the tag of a request
--     tags_of log marks      the tags of a log, of which the marked requests may be served
--     tag_column log      the tags of all requests of a log
--     is_blocked e      a request with its mark waits and is not marked
--     blocked_count log      how many requests wait and are blocked by an older one of their line
--     line_counter mask place      the counter of the requests for the line of a place, and for some other lines
--     row_counter mask bank access row      the counter of the requests for a row of a bank, to write or to read
--     counter_of_line mask r, counter_of_row mask r      the counters of a request
--     counted_by counter_of requests counter      how many requests a counter counts
--     AreCounted counter_of counts requests      each counter says how many requests it counts
--     asks_for_row bank access row r      a request asks for a row of a bank, to write or to read
--     NoneAsksForRow bank access row log      no request that waits asks for a row of a bank, to write or to read
--     marked_items items marks      the items at the places that are marked
--     waiting_items log items      the items at the places of the requests that wait
--     write_count requests      how many of the requests are writes
use Rattle.std.specs.Prelude.{ℕ, ◌≡◌, ◌<◌, ◌+◌, ◌*◌, ◌/◌, ◌%◌, ◌^◌, bit_and, length, slice_index_or, ◌==◌, Bool, false, not, ◌&&◌, List, All, map, filter, count_by, if◌then◌else◌}
use Rattle.std.specs.List.{zip}
use Rattle.std.specs.Simd.Lanes.{zip2}
use Rattle.sim_base.specs.Access.{is_access}
use Rattle.sim_base.specs.declared.message.Access.{Access}
use Rattle.sim_base.specs.declared.message.Access.TheVariants as access
use Rattle.sim_base.specs.declared.message.Request.{Request}
use Rattle.sim_base.specs.declared.place.Place.{Place}
use Rattle.sim_base.specs.Places.{bank_in, number_of_bank}
use Rattle.queue.specs.declared.request_log.Arrived.{Arrived}
use Rattle.queue.specs.Marks.{is_marked, write_bit}
use Rattle.sim_base.specs.Counts.{one_if}
use Rattle.queue.specs.Log.{eligible_column, waiting_requests}

-- the number of the bank of a place
abbrev pub bank_number : Place → ℕ
bank_number place = number_of_bank (bank_in place)

-- the tag of a request: in bit 7 whether it may be served, in bit 6 whether it writes, and in bits 0 to 5 the number of
-- its bank modulo 64
abbrev pub tag_word : Bool → Access → ℕ → ℕ
tag_word eligible access bank = (one_if eligible * 2 + write_bit access) * 64 + bank % 64

-- the tag of a request that was served: no request that may be served has it
abbrev pub served_tag : ℕ
served_tag = 127

-- the tag of a request, which may be served or not
abbrev pub tag_of : Bool → Arrived → ℕ
tag_of eligible a = if a.waits then tag_word eligible a.request.access (bank_number a.request.place) else served_tag

-- the tags of a log, of which the marked ones may be served
abbrev pub tags_of : List Arrived → List ℕ → List ℕ
tags_of log marks = zip2 (λ a eligible. tag_of (is_marked eligible) a) log marks

-- the tag of each request of a log
unfoldable pub tag_column : List Arrived → List ℕ
tag_column log = tags_of log (eligible_column log)

-- a request waits, and is not marked
abbrev pub is_blocked : Arrived × ℕ → Bool
is_blocked e = e.0.waits && not (is_marked e.1)

-- how many requests wait and are blocked by an older one of their line
abbrev pub blocked_count : List Arrived → ℕ
blocked_count log = count_by is_blocked (zip log (eligible_column log))

-- one of the counters up to `mask`, the same for all places of a line
unfoldable pub line_counter : ℕ → Place → ℕ
line_counter mask place =
    bit_and ((((place.row * 128 + bank_number place) * 1024 + place.column) * 11400714819323198485) % 2 ^ 64 / 2 ^ 32)
    mask

-- one of the counters up to `mask`: the same for all requests to read a row of a bank, and the next one, modulo
-- `mask` + 1, for all requests to write it
unfoldable pub row_counter : ℕ → ℕ → Access → ℕ → ℕ
row_counter mask bank access row =
    bit_and (((row * 128 + bank) % 2 ^ 64 * 11400714819323198485) % 2 ^ 64 / 2 ^ 32 + write_bit access) mask

-- the counter of a request among those of lines
abbrev pub counter_of_line : ℕ → Request → ℕ
counter_of_line mask r = line_counter mask r.place

-- the counter of a request among those of rows
abbrev pub counter_of_row : ℕ → Request → ℕ
counter_of_row mask r = row_counter mask (bank_number r.place) r.access r.place.row

-- how many requests a counter counts
abbrev pub counted_by : (Request → ℕ) → List Request → ℕ → ℕ
counted_by counter_of requests counter = count_by (λ r. counter_of r == counter) requests

-- each counter says how many requests it counts
abbrev pub AreCounted : (Request → ℕ) → List ℕ → List Request → Type 0
AreCounted counter_of counts requests =
    (counter : ℕ) → counter < length counts → slice_index_or counts counter 0 ≡ counted_by counter_of requests counter

-- a request asks for a row of a bank, to write or to read
abbrev pub asks_for_row : ℕ → Access → ℕ → Request → Bool
asks_for_row bank access row r = (bank_number r.place == bank) && is_access access r.access && (r.place.row == row)

-- no request that waits asks for a row of a bank, to write or to read
abbrev pub NoneAsksForRow : ℕ → Access → ℕ → List Arrived → Type 0
NoneAsksForRow bank access row log = All (λ r. asks_for_row bank access row r ≡ false) (waiting_requests log)

-- the items at the places that are marked
abbrev pub marked_items : {X : Type 0} → List X → List ℕ → List X
marked_items items marks = map (λ e. e.0) (filter (λ e. is_marked e.1) (zip items marks))

-- the items at the places of the requests that wait
abbrev pub waiting_items : {X : Type 0} → List Arrived → List X → List X
waiting_items log items = map (λ e. e.1) (filter (λ e. e.0.waits) (zip log items))

-- how many requests are writes
abbrev pub write_count : List Request → ℕ
write_count requests = count_by (λ r. is_access access.Write r.access) requests

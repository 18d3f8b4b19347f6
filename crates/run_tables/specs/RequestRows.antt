-- What the reader of requests makes of a record.
--     exact_below limit text      the number in a field, if it is below a limit and written without a leading zero
--     asked_in, times_in fields      the fields of what is asked, and of when
--     request_in fields      the row that a record writes, if its fields are those of one
--     first_request records      the same of the first of some records
--     is_request_header fields      a record is the header
--     begins_requests records      the first of some records is
use Rattle.std.specs.Prelude.{ℕ, ◌^◌, ◌==◌, nat_lt, nat_le, Bool, true, false, ◌&&◌, List, [], ◌∷◌, length, codes, option_map, Option, Some, None, if◌then◌else◌}
use Rattle.std.specs.Str.{bytes_eq}
use Rattle.sim_base.specs.declared.message.Access.{Access}
use Rattle.sim_base.specs.declared.message.Access.TheVariants.{Read, Write}
use Rattle.request_table.specs.declared.times.RequestTimes.{RequestTimes}
use Rattle.rule_check.specs.Fields.{◌>>=◌, is_empty, text_at}
use Rattle.run_tables.specs.declared.requests.AskedFields.{AskedFields}
use Rattle.run_tables.specs.declared.requests.TimeFields.{TimeFields}
use Rattle.run_tables.specs.Numbers.{number_written}

-- a number, if it is below a limit
abbrev pub below_limit : ℕ → Option ℕ → Option ℕ
below_limit limit (Some number) = if nat_lt number limit then Some number else None
below_limit limit None = None

-- the number in a field, if it is below a limit and written without a leading zero
unfoldable pub exact_below : ℕ → List ℕ → Option ℕ
exact_below limit text = below_limit limit (number_written text)

-- the cycle in a field that may be empty
unfoldable pub replied_in : List ℕ → Option (Option ℕ)
replied_in text = if is_empty text then Some None else option_map (λ number. Some number) (exact_below (2 ^ 62) text)

-- what a word asks
unfoldable pub access_in : List ℕ → Option Access
access_in text =
    if bytes_eq text (codes "read") then Some Read else if bytes_eq text (codes "write") then Some Write else None

-- whether a digit tells a hit
unfoldable pub hit_in : List ℕ → Option Bool
hit_in text = if bytes_eq text (codes "1") then Some true else if bytes_eq text (codes "0") then Some false else None

-- the fields that tell who asks what: core, entry, access and channel
unfoldable pub asked_in : List (List ℕ) → Option AskedFields
asked_in fields = do
  core ← exact_below 256 (text_at fields 0)
  entry ← exact_below (2 ^ 62) (text_at fields 1)
  access ← access_in (text_at fields 2)
  channel ← exact_below 16 (text_at fields 3)
  Some (record { core = core; entry = entry; access = access; channel = channel })

-- the fields that tell when: issued, arrived, served and replied
unfoldable pub times_in : List (List ℕ) → Option TimeFields
times_in fields = do
  issued ← exact_below (2 ^ 62) (text_at fields 4)
  arrived ← exact_below (2 ^ 62) (text_at fields 5)
  served ← exact_below (2 ^ 62) (text_at fields 6)
  replied ← replied_in (text_at fields 7)
  Some (record { issued = issued; arrived = arrived; served = served; replied = replied })

-- the reply to a read comes after its RD; a write has none
abbrev pub is_reply_to : Access → ℕ → Option ℕ → Bool
is_reply_to access served None = true
is_reply_to Read served (Some replied) = nat_lt served replied
is_reply_to Write served (Some replied) = false

-- no step of a request is before the last one
abbrev pub follows : RequestTimes → Bool
follows row =
    nat_le row.issued row.arrived && nat_le row.arrived row.served && is_reply_to row.access row.served row.replied

-- a row, if no step of it is before the last one
abbrev pub in_time : RequestTimes → Option RequestTimes
in_time row = if follows row then Some row else None

-- the row of these fields
abbrev pub row_of : AskedFields → TimeFields → Bool → RequestTimes
row_of asked times hit = record {
  core = asked.core;
  entry = asked.entry;
  access = asked.access;
  channel = asked.channel;
  issued = times.issued;
  arrived = times.arrived;
  served = times.served;
  replied = times.replied;
  hit = hit;
}

-- the row that a record of nine fields writes
unfoldable pub request_from : List (List ℕ) → Option RequestTimes
request_from fields = do
  asked ← asked_in fields
  times ← times_in fields
  hit ← hit_in (text_at fields 8)
  in_time (row_of asked times hit)

-- the row that a record writes, if its fields are those of one
unfoldable pub request_in : List (List ℕ) → Option RequestTimes
request_in fields = if length fields == 9 then request_from fields else None

-- the row that the first of some records writes
abbrev pub first_request : List (List (List ℕ)) → Option RequestTimes
first_request [] = None
first_request (fields ∷ others) = request_in fields

-- a record is the header
unfoldable pub is_request_header : List (List ℕ) → Bool
is_request_header fields =
    (length fields == 9) && bytes_eq (text_at fields 0) (codes "core") && bytes_eq (text_at fields 1) (codes "entry")
    && bytes_eq (text_at fields 2) (codes "access") && bytes_eq (text_at fields 3) (codes "channel")
    && bytes_eq (text_at fields 4) (codes "issued")
    && bytes_eq (text_at fields 5) (codes "arrived") && bytes_eq (text_at fields 6) (codes "served")
    && bytes_eq (text_at fields 7) (codes "replied")
    && bytes_eq (text_at fields 8) (codes "hit")

-- the first of some records is
abbrev pub begins_requests : List (List (List ℕ)) → Bool
begins_requests [] = false
begins_requests (fields ∷ others) = is_request_header fields

-- What the records of a table of requests mean.
--     IsReplyTo access served replied      when the reply to a request may come
--     RequestFits row      the numbers of a row are in their ranges, and its cycles follow each other
--     turn row      where a row stands among the others
--     HasNoHeader records      the first of some records is missing, or no header
--     IsTooEarly least records      the first of some records writes a row before this place, or none
--     IsInOrder rows      each row stands behind those before it
--     IsRequestTable records rows      the records are those that are written of these rows
--     HoldsRequests records      they are a table of some rows
--     RequestsComeBack rows      the table of these rows is read as it was written
use Rattle.std.specs.Prelude.{◌≡◌, ℕ, ◌+◌, ◌*◌, ◌^◌, ◌<◌, ◌≤◌, ⊤, false, List, ◌∷◌, map, IfSome, Option, Some, None, All}
use Rattle.std.specs.List.{AllPairs}
use Rattle.sim_base.specs.declared.message.Access.{Access}
use Rattle.sim_base.specs.declared.message.Access.TheVariants.{Read, Write}
use Rattle.request_table.specs.declared.times.RequestTimes.{RequestTimes}
use Rattle.reports.specs.Requests.{request_header, request_fields, requests_text}
use Rattle.rule_check.specs.Verdict.{records_of}
use Rattle.run_tables.specs.RequestRows.{first_request, begins_requests}

-- the reply to a read comes after its RD, in a cycle of the run, or not in the run; a write has none
abbrev pub IsReplyTo : Access → ℕ → Option ℕ → Type 0
IsReplyTo access served None = ⊤
IsReplyTo Read served (Some replied) = (served < replied) × (replied < 2 ^ 62)
IsReplyTo Write served (Some replied) = ⊥

-- a row that a run can have: a core below 256, a channel below 16, an entry and cycles below 2^62, and no step of the
-- request before the last one
pub record RequestFits (row : RequestTimes) : Type 0 where
  pub core_in_range : row.core < 256
  pub entry_in_range : row.entry < 2 ^ 62
  pub channel_in_range : row.channel < 16
  pub served_in_range : row.served < 2 ^ 62
  pub issued_first : row.issued ≤ row.arrived
  pub arrived_before : row.arrived ≤ row.served
  pub reply : IsReplyTo row.access row.served row.replied

-- where a row stands among the others: by the cycle of its RD or WR, and among those of a cycle by its channel, which
-- is below 16
abbrev pub turn : RequestTimes → ℕ
turn row = 16 * row.served + row.channel

-- the first of some records is missing, or no header
abbrev pub HasNoHeader : List (List (List ℕ)) → Type 0
HasNoHeader records = begins_requests records ≡ false

-- the first of some records writes no row, or one before this place
abbrev pub IsTooEarly : ℕ → List (List (List ℕ)) → Type 0
IsTooEarly least records = IfSome (first_request records) (λ row. turn row < least)

-- each row stands behind those before it
abbrev pub IsInOrder : List RequestTimes → Type 0
IsInOrder rows = AllPairs (λ a b. turn a < turn b) rows

-- the records of a table of requests: the header, and then a record for each row
pub record IsRequestTable (records : List (List (List ℕ))) (rows : List RequestTimes) : Type 0 where
  pub parts : records ≡ request_header ∷ map request_fields rows
  pub fits : All RequestFits rows
  pub in_order : IsInOrder rows

-- the records are those of a table of some rows
abbrev pub HoldsRequests : List (List (List ℕ)) → Type 0
HoldsRequests records = (rows : List RequestTimes) × IsRequestTable records rows

-- the table that is written of these rows is read as these rows
abbrev pub RequestsComeBack : List RequestTimes → Type 0
RequestsComeBack rows = IsRequestTable (records_of (requests_text rows)) rows

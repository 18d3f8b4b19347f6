-- The text of the table of requests.
--     request_header      the names of its columns
--     access_word access      the word of what a request asks
--     time_fields row      the last five fields of a row: when the request was where, and whether its row was open
--     request_fields row      the fields of a row
--     request_lines rows      the rows without the header
--     requests_text rows      the whole table
use Rattle.std.specs.Prelude.{ℕ, Bool, List, [], ◌∷◌, map, codes, decimal, if◌then◌else◌}
use Rattle.sim_base.specs.declared.message.Access.{Access}
use Rattle.sim_base.specs.declared.message.Access.TheVariants as access
use Rattle.request_table.specs.declared.times.RequestTimes.{RequestTimes}
use Rattle.reports.specs.Rows.{optional, rows_text, table_text}

-- the names of the columns
abbrev pub request_header : List (List ℕ)
request_header =
    codes "core" ∷ codes "entry" ∷ codes "access" ∷ codes "channel" ∷ codes "issued"
    ∷ codes "arrived" ∷ codes "served" ∷ codes "replied" ∷ codes "hit" ∷ []

-- the word of what a request asks
abbrev pub access_word : Access → List ℕ
access_word access.Read = codes "read"
access_word access.Write = codes "write"

-- 1 for a row hit, 0 for none
abbrev pub hit_field : Bool → List ℕ
hit_field hit = decimal (if hit then 1 else 0)

-- the fields of when the request was where, in cycles, and of the row hit; that of the reply is empty where none came
abbrev pub time_fields : RequestTimes → List (List ℕ)
time_fields row =
    decimal row.issued ∷ decimal row.arrived ∷ decimal row.served ∷ optional row.replied ∷ hit_field row.hit ∷ []

-- the fields of a row
abbrev pub request_fields : RequestTimes → List (List ℕ)
request_fields row =
    decimal row.core ∷ decimal row.entry ∷ access_word row.access ∷ decimal row.channel ∷ time_fields row

-- the rows of requests, in this order
abbrev pub request_lines : List RequestTimes → List ℕ
request_lines rows = rows_text (map request_fields rows)

-- the table of requests, in this order
unfoldable pub requests_text : List RequestTimes → List ℕ
requests_text rows = table_text request_header (map request_fields rows)

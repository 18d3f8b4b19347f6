-- A table of requests is read as it was written.
use Rattle.std.proofs.Common.{◌≡◌, ◌≤◌, ◌^◌, ◌∙◌, ℕ, Bool, true, false, List, [], ◌∷◌, length, map, Option, Some, None, All, refl, ap, arith}
use Rattle.std.specs.List.{AllByRecursion as Each}
use Rattle.csv.specs.Reading.{strip_bom}
use Rattle.csv.specs.declared.parser.State.TheVariants as st
use Rattle.sim_base.specs.Machine.{run}
use Rattle.sim_base.specs.declared.config.Config.{Config}
use Rattle.sim_base.specs.declared.trace.Entry.{Entry}
use Rattle.reports.specs.Requests.{request_header, access_word, hit_field, request_fields, requests_text}
use Rattle.reports.specs.Rows.{optional, row_text, rows_text, table_text}
use Rattle.request_table.specs.Requests.{requests_of}
use Rattle.sim_base.specs.declared.message.Access.{Access}
use Rattle.sim_base.specs.declared.message.Access.TheVariants.{Read, Write}
use Rattle.request_table.specs.declared.times.RequestTimes.{RequestTimes}
use Rattle.rule_check.specs.Left.{records_after}
use Rattle.rule_check.specs.Verdict.{records_of}
use Rattle.run_tables.proofs.TableLaws.Plain.{IsPlain, decimal-plain}
use Rattle.run_tables.proofs.TableLaws.RowsBack.{IsPlainRow, rows-read}
use Rattle.run_tables.specs.Requests.{RequestFits, IsInOrder, IsRequestTable}
use Rattle.run_tables.proofs.RunRequests.{requests-fit, requests-ordered}

pub value-plain : (value : Option ℕ) → IsPlain (optional value)
value-plain None = refl
value-plain (Some n) = decimal-plain n

access-plain : (access : Access) → IsPlain (access_word access)
access-plain Read = refl
access-plain Write = refl

hit-plain : (hit : Bool) → IsPlain (hit_field hit)
hit-plain true = decimal-plain 1
hit-plain false = decimal-plain 0

row-plain : (row : RequestTimes) → IsPlainRow (request_fields row)
row-plain row = record {
  several = omega arith;
  plain = (
    decimal-plain row.core,
    (
      decimal-plain row.entry,
      (
        access-plain row.access,
        (
          decimal-plain row.channel,
          (
            decimal-plain row.issued,
            (
              decimal-plain row.arrived,
              (decimal-plain row.served, (value-plain row.replied, (hit-plain row.hit, tt))),
            ),
          ),
        ),
      ),
    ),
  );
}

rows-plain : (rows : List RequestTimes) → Each IsPlainRow (map request_fields rows)
rows-plain [] = tt
rows-plain (row ∷ rows) = (row-plain row, rows-plain rows)

header-plain : IsPlainRow request_header
header-plain = record { several = omega arith; plain = (refl, (refl, (refl, (refl, (refl, (refl, (refl, (refl, (refl, tt))))))))) }

-- the table begins with no byte order mark
unmarked : (rows : List RequestTimes) → strip_bom (requests_text rows) ≡ requests_text rows
unfolding strip_bom requests_text table_text rows_text row_text
unmarked rows = refl

-- its records are the header and the rows
records-read : (rows : List RequestTimes) → records_of (requests_text rows) ≡ request_header ∷ map request_fields rows
unfolding records_after requests_text table_text
records-read rows = ap (λ text. records_after st.StartRecord text) (unmarked rows) ∙ rows-read (request_header ∷ map request_fields rows) (header-plain, rows-plain rows)

pub requests-read : (rows : List RequestTimes) → All RequestFits rows → IsInOrder rows → IsRequestTable (records_of (requests_text rows)) rows
requests-read rows fits in_order = record { parts = records-read rows; fits = fits; in_order = in_order }

-- and so are the requests of a run
pub run-requests : (s : Config) (traces : List (List Entry)) (n : ℕ) → n ≤ 2 ^ 62 → All (λ (t : List Entry). length t ≤ 2 ^ 62) traces
    → IsRequestTable (records_of (requests_text (requests_of s (run s traces n)))) (requests_of s (run s traces n))
run-requests s traces n few short = requests-read (requests_of s (run s traces n)) (requests-fit s traces n few short) (requests-ordered s traces n)

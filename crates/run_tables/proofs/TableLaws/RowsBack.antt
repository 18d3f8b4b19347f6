-- The rows of a table, as `csv` reads them back.
use Rattle.std.proofs.Common.{◌≡◌, ℕ, ◌≤◌, ◌∙◌, List, [], ◌∷◌, ◌++◌, length, map, Some, refl, sym, ap, arith}
use Rattle.std.specs.List.{AllByRecursion as Each, join_with_byte}
use Rattle.std.proofs.lemmas.List.{append-nil}
use Rattle.csv.specs.Machine.{next_record}
use Rattle.csv.specs.Reading.{default_config, strip_bom}
use Rattle.csv.specs.Writing.{default_writer, field_text, fields_text, is_blank}
use Rattle.csv.specs.Writing as csv
use Rattle.csv.specs.declared.parser.State.TheVariants as st
use Rattle.csv.proofs.RoundTrip.{read-write-many}
use Rattle.sim_base.specs.declared.command.IssuedCommand.{IssuedCommand}
use Rattle.reports.specs.Rows.{comma, row_text, rows_text, table_text}
use Rattle.reports.specs.Commands.{header, command_fields, commands_text}
use Rattle.rule_check.specs.Left.{records_after}
use Rattle.rule_check.specs.Verdict.{records_of}
use Rattle.rule_check.proofs.Left.{after_step, after_none}
use Rattle.run_tables.proofs.TableLaws.Plain.{IsPlain, header-plain, row-plain}

-- a field that is plain is written as it is
field-same : (field : List ℕ) → IsPlain field → field_text default_writer field ≡ field
field-same field h = rw h refl

fields-joined : (field : List ℕ) (fields : List (List ℕ)) → Each IsPlain (field ∷ fields)
    → field_text default_writer field ++ fields_text default_writer fields ≡ join_with_byte comma (field ∷ fields)
unfolding fields_text
fields-joined field [] h = append-nil (field_text default_writer field) ∙ field-same field h.0
fields-joined field (next ∷ fields) h = rw (field-same field h.0, fields-joined next fields h.1) refl

-- so are several fields that are plain, with commas between them
row-same : (a b : List ℕ) (more : List (List ℕ)) → Each IsPlain (a ∷ b ∷ more) → csv.row_text default_writer (a ∷ b ∷ more) ≡ row_text (a ∷ b ∷ more)
unfolding row_text is_blank
row-same a b more h = ap (λ t. t ++ 10 ∷ []) (fields-joined a (b ∷ more) h)

-- a record of two fields or more, all plain
pub record IsPlainRow (fields : List (List ℕ)) : Type 0 where
  pub several : 2 ≤ length fields
  pub plain : Each IsPlain fields

row-read : (fields : List (List ℕ)) (tail : List ℕ) → IsPlainRow fields
    → next_record default_config st.StartRecord [] [] (row_text fields ++ tail) ≡ Some (fields, st.StartRecord, tail)
row-read [] tail h = absurd (omega (arith, h.several))
row-read (a ∷ []) tail h = absurd (omega (arith, h.several))
row-read (a ∷ b ∷ more) tail h = rw (sym (row-same a b more h.plain)) (read-write-many a b more tail)

-- rows, one after the other, are the records that are read
pub rows-read : (rows : List (List (List ℕ))) → Each IsPlainRow rows → records_after st.StartRecord (rows_text rows) ≡ rows
unfolding rows_text
rows-read [] h = after_none st.StartRecord [] (unfold next_record in refl)
rows-read (row ∷ rows) h =
    after_step st.StartRecord (row_text row ++ rows_text rows) (row, st.StartRecord, rows_text rows) refl (row-read row (rows_text rows) h.0)
    ∙ ap (λ rest. row ∷ rest) (rows-read rows h.1)

several-header : (ranks : ℕ) → IsPlainRow (header ranks)
several-header ranks = record { several = omega arith; plain = header-plain ranks }

several-row : (ranks : ℕ) (row : IssuedCommand) → IsPlainRow (command_fields ranks row)
several-row ranks row = record { several = omega arith; plain = row-plain ranks row }

rows-plain : (ranks : ℕ) (rows : List IssuedCommand) → Each IsPlainRow (map (command_fields ranks) rows)
rows-plain ranks [] = tt
rows-plain ranks (row ∷ rows) = (several-row ranks row, rows-plain ranks rows)

-- a table begins with no byte order mark
pub unmarked : (ranks : ℕ) (rows : List IssuedCommand) → strip_bom (commands_text ranks rows) ≡ commands_text ranks rows
unfolding strip_bom commands_text table_text rows_text row_text
unmarked ranks rows = refl

-- its records are the header and the rows
pub records-read : (ranks : ℕ) (rows : List IssuedCommand) → records_of (commands_text ranks rows) ≡ header ranks ∷ map (command_fields ranks) rows
unfolding records_after commands_text table_text
records-read ranks rows =
    ap (λ text. records_after st.StartRecord text) (unmarked ranks rows)
    ∙ rows-read (header ranks ∷ map (command_fields ranks) rows) (several-header ranks, rows-plain ranks rows)

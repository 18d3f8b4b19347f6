-- The text of a table.
--     optional number      a field for a number that may be missing
--     fields_text fields      the fields of a row, with commas between them
--     with_rank ranks rank rest      a row's text from the column of the rank on
--     row_text fields      a row
--     ended text      rows with the line feed at their end
--     rows_text rows      rows, one after the other
--     table_text header rows      a table
--     numbered f xs      what the items of a list give with their numbers
--     plain_writer      how csv writes: never with quotes
--     IsTextOf text result      a text, or why there is none
--     all_of texts      texts, one after the other
--     WritesOnOk result contents old new text      on Ok, a writer has got this text and nothing else
use Rattle.std.specs.Prelude.{◌≡◌, ℕ, nat_lt, List, [], ◌∷◌, ◌++◌, codes, decimal, if◌then◌else◌, Option, Some, None, Result, OnOk, MatchResult, Vec}
use Rattle.std.specs.Io.KnownBytes.{Appends}
use Rattle.std.specs.List.{enumerate_from, flat_map, join_with_byte}
use Rattle.csv.specs.Writing.{default_writer, with_style}
use Rattle.csv.specs.declared.writer.QuoteStyle.TheVariants as style
use Rattle.csv.specs.declared.writer.WriterBuilder.{WriterBuilder}
use Rattle.sim_base.specs.declared.fault.Fault.{Fault}
use Rattle.std.specs.declared.alloc.Global.{Global}
use Rattle.sim_base.specs.Faults.{IsWriteFault}

-- the text of a value; an empty field where there is none
abbrev pub optional_by : {A : Type 0} → (A → List ℕ) → Option A → List ℕ
optional_by text None = []
optional_by text (Some value) = text value

-- a number in decimal digits; an empty field where there is none
abbrev pub optional : Option ℕ → List ℕ
optional number = optional_by decimal number

-- the byte between two fields
abbrev pub comma : ℕ
comma = 44

-- the fields of a row, with commas between them
abbrev pub fields_text : List (List ℕ) → List ℕ
fields_text fields = join_with_byte comma fields

-- a row's text from the column of the rank on, which is present only if there are several ranks
abbrev pub with_rank : ℕ → Option ℕ → List ℕ → List ℕ
with_rank ranks rank rest = if nat_lt 1 ranks then optional rank ++ comma ∷ rest else rest

-- a row: its fields, separated by commas, and a line feed
unfoldable pub row_text : List (List ℕ) → List ℕ
row_text fields = fields_text fields ++ codes "\n"

-- the text of rows with the line feed at its end; without rows there is none
abbrev pub ended : List ℕ → List ℕ
ended [] = []
ended (byte ∷ rest) = byte ∷ rest ++ codes "\n"

-- rows, one after the other
unfoldable pub rows_text : List (List (List ℕ)) → List ℕ
rows_text rows = flat_map row_text rows

-- a table: its header, and then its rows
unfoldable pub table_text : List (List ℕ) → List (List (List ℕ)) → List ℕ
table_text header rows = rows_text (header ∷ rows)

-- what each item of a list gives with its number, one after the other; numbers count from 0
unfoldable pub numbered : {A B : Type 0} → (ℕ → A → List B) → List A → List B
numbered f xs = flat_map (λ p. f p.0 p.1) (enumerate_from 0 xs)

-- a writer of csv that never quotes
abbrev pub plain_writer : WriterBuilder
plain_writer = with_style default_writer style.Never

-- a text, or why there is none
abbrev pub IsTextOf : List ℕ → Result (Vec ℕ Global) Fault → Type 0
IsTextOf text result = MatchResult result (λ found. found.items ≡ text) IsWriteFault

-- texts, one after the other
abbrev pub all_of : List (Vec ℕ Global) → List ℕ
all_of texts = flat_map (λ text. text.items) texts

-- on Ok, what a writer holds has grown by this text and by nothing else
abbrev pub WritesOnOk : {T E W : Type 0} → Result T E → (W → Option (List ℕ)) → W → W → List ℕ → Type 0
WritesOnOk result contents old new text = OnOk result (Appends (contents old) (contents new) text)

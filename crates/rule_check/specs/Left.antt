-- What a reader has left of a table.
--     records_after state text      the records of a text, from a state of the reader on
--     left_of reader      the records that a reader has left
--     IsReading reader      a reader of a table with the usual settings, between two records
--     Takes old found fields new      a reader took the next record, or there was none
use Rattle.std.specs.Borrow.{Bor}
use Rattle.std.specs.Prelude.{◌≡◌, ℕ, ◌+◌, Bool, true, false, List, [], ◌∷◌, length, Option, Some, None}
use Rattle.csv.specs.Machine.{ends_at_end}
use Rattle.csv.specs.Reading.{Ready, default_config, records_from, source_of}
use Rattle.csv.specs.declared.parser.State.{State}
use Rattle.csv.specs.declared.reader.Reader.{Reader}
use Rattle.csv.specs.declared.reader.Trim.TheVariants as trim

-- the records of a text, from a state of the reader on
unfoldable pub records_after : State → List ℕ → List (List (List ℕ))
records_after state text = records_from default_config (length text + 1) state text

-- the bytes that a reader has left
abbrev pub bytes_left : Reader (Bor (List ℕ)) → Option (List ℕ)
bytes_left reader = source_of (λ s. Some s.now) reader

-- the records of what is left, where that is known
abbrev pub records_of_left : State → Option (List ℕ) → List (List (List ℕ))
records_of_left state (Some text) = records_after state text
records_of_left state None = []

-- the records that a reader has left
unfoldable pub left_of : Reader (Bor (List ℕ)) → List (List (List ℕ))
left_of reader = records_of_left reader.state (bytes_left reader)

-- a reader of a table with the usual settings, which stands between two records
pub record IsReading (reader : Reader (Bor (List ℕ))) : Type 0 where
  pub trim : reader.trim ≡ trim.None
  pub ready : Ready reader
  pub config : reader.config ≡ default_config
  pub text : List ℕ
  pub source : bytes_left reader ≡ Some text
  pub between : ends_at_end reader.state ≡ false

-- a reader took the next record, or there was none
abbrev pub Takes : Reader (Bor (List ℕ)) → Bool → List (List ℕ) → Reader (Bor (List ℕ)) → Type 0
Takes old true fields new = IsReading new × (left_of old ≡ fields ∷ left_of new)
Takes old false fields new = left_of old ≡ []

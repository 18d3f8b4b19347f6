-- The grammar of a trace's text: which texts stand for which entries, by cases on the text.
--     WritesNumber token number      a token writes a number
--     JoinsNumbers line numbers      a line joins numbers by separators
--     StandsForLine line entries      a line stands for entries
--     StandsForTrace text entries      a text stands for entries
--     IsRefusedBy text fault      what a fault says about the text that it refuses
--     IsReadInOneWay text entries      a text stands for just the entries that its lines have
use Rattle.std.specs.Prelude.{◌≡◌, ℕ, ◌^◌, ◌<◌, ◌⊎◌, ◌↔◌, ⊤, codes, IsTrue, List, [], ◌∷◌, ◌++◌, length, replicate, slice_index, Option, Some, None, Ok}
use Rattle.std.specs.List.{AllZip, flat_map, join_with_byte, list_all}
use Rattle.std.specs.Str.Parse.{IsNumeral, digits_value}
use Rattle.sim_base.specs.declared.fault.Fault.{Fault}
use Rattle.sim_base.specs.declared.fault.Fault.TheVariants.{TraceLine, TraceTooLong, Memory}
use Rattle.sim_base.specs.declared.trace.Entry.{Entry}
use Rattle.sim_base.specs.declared.trace.Entry.TheVariants.{Plain, Read, Write}
use Rattle.sim_base.specs.TraceText.{is_separator, trace_entries}

-- one or more digits of a base, which write a number of at most 2^64 - 1
pub record AreDigitsOf (radix : ℕ) (digits : List ℕ) (number : ℕ) : Type 0 where
  pub numeral : IsNumeral radix digits
  pub value : digits_value radix digits ≡ number
  pub fits : number < 2 ^ 64

-- hexadecimal digits of either case, after `0x` or `0X`
pub record AreMarkedDigitsOf (token : List ℕ) (number : ℕ) : Type 0 where
  pub mark : List ℕ
  pub digits : List ℕ
  pub is_mark : (mark ≡ codes "0x") ⊎ (mark ≡ codes "0X")
  pub parts : token ≡ mark ++ digits
  pub are_digits : AreDigitsOf 16 digits number

-- a token writes a number: in decimal digits, leading zeros included, or in hexadecimal ones
abbrev pub WritesNumber : List ℕ → ℕ → Type 0
WritesNumber token number = AreDigitsOf 10 token number ⊎ AreMarkedDigitsOf token number

-- separators, or nothing
abbrev pub IsGap : List ℕ → Type 0
IsGap bytes = IsTrue (list_all is_separator bytes)

-- nothing, or what begins with a separator
abbrev pub IsApart : List ℕ → Type 0
IsApart bytes = 0 < length bytes → IsTrue (is_separator (slice_index bytes 0))

-- a line begins with a token that writes a number, possibly after separators, and the rest of it stands apart from that
-- token
pub record BeginsWithNumber (line : List ℕ) (number : ℕ) (rest : List ℕ) : Type 0 where
  pub gap : List ℕ
  pub token : List ℕ
  pub is_gap : IsGap gap
  pub is_number : WritesNumber token number
  pub is_apart : IsApart rest
  pub parts : line ≡ gap ++ (token ++ rest)

-- numbers joined by separators, which may also stand at either end
abbrev pub JoinsNumbers : List ℕ → List ℕ → Type 0
JoinsNumbers line [] = IsGap line
JoinsNumbers line (number ∷ numbers) = (rest : List ℕ) × BeginsWithNumber line number rest × JoinsNumbers rest numbers

-- The entries of a line with these numbers: with none it is blank; otherwise it has two, or three if it writes.
abbrev pub entries_of_numbers : List ℕ → Option (List Entry)
entries_of_numbers [] = Some []
entries_of_numbers (plain ∷ []) = None
entries_of_numbers (plain ∷ read ∷ []) = Some (replicate plain Plain ++ Read read ∷ [])
entries_of_numbers (plain ∷ read ∷ write ∷ []) = Some (replicate plain Plain ++ Read read ∷ Write write ∷ [])
entries_of_numbers (plain ∷ read ∷ write ∷ more ∷ others) = None

-- a line is blank, or joins two or three numbers
pub record StandsForLine (line : List ℕ) (entries : List Entry) : Type 0 where
  pub numbers : List ℕ
  pub joined : JoinsNumbers line numbers
  pub are_entries : entries_of_numbers numbers ≡ Some entries

-- a text is lines joined by line feeds, and stands for their entries, one line's after another's
pub record StandsForTrace (text : List ℕ) (entries : List Entry) : Type 0 where
  pub lines : List (List ℕ)
  pub parts : List (List Entry)
  pub joined : text ≡ join_with_byte 10 lines
  pub each_line : AllZip StandsForLine lines parts
  pub are_entries : entries ≡ flat_map (λ part. part) parts

-- What a fault says about a text that it refuses as a core's trace: a text with a bad line stands for nothing, and one
-- that is too long stands for more than 2^62 entries. Out of memory says nothing about it, and there is no other
-- refusal.
abbrev pub IsRefusedBy : List ℕ → Fault → Type 0
IsRefusedBy text (TraceLine core line cause) = (entries : List Entry) → ¬ StandsForTrace text entries
IsRefusedBy text (TraceTooLong core) = (entries : List Entry) × StandsForTrace text entries × (2 ^ 62 < length entries)
IsRefusedBy text Memory = ⊤
IsRefusedBy text _ = ⊥

-- a text stands for just the entries that its lines have
abbrev pub IsReadInOneWay : List ℕ → List Entry → Type 0
IsReadInOneWay text entries = StandsForTrace text entries ↔ (trace_entries text ≡ Ok entries)

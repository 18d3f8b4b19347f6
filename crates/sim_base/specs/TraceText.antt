-- The meaning of a trace's text, which is a list of bytes.
--     lines_of text, tokens_of line      what stands between line feeds, and between separators
--     number_of token      the number that a token writes
--     line_entries line      the entries of a line, or what is wrong with it
--     trace_entries text      the entries of a text, or its first bad line
--     trace_answer core text      the entries of a core's trace, or the fault by which it is refused
use Rattle.std.specs.Prelude.{ℕ, ◌+◌, ◌^◌, ◌==◌, nat_eq, nat_lt, nat_le, Bool, not, ◌||◌, codes, List, [], ◌∷◌, ◌++◌, filter, length, drop, replicate, Result, Ok, Err, if◌then◌else◌}
use Rattle.std.specs.Char.{is_digit}
use Rattle.std.specs.List.{list_all, slice_split, starts_with}
use Rattle.std.specs.Str.Parse.{digits_value}
use Rattle.sim_base.specs.declared.fault.Fault.{Fault}
use Rattle.sim_base.specs.declared.fault.Fault.TheVariants.{TraceLine, TraceTooLong}
use Rattle.sim_base.specs.declared.fault.LineCause.{LineCause}
use Rattle.sim_base.specs.declared.fault.LineCause.TheVariants.{TooFew, TooMany, NotANumber, TooLarge}
use Rattle.sim_base.specs.declared.trace.Entry.{Entry}
use Rattle.sim_base.specs.declared.trace.Entry.TheVariants.{Plain, Read, Write}

-- what is made of a value that may have been refused: the first fault stays
infixl 10 ◌>>=◌
abbrev pub ◌>>=◌ : {A B E : Type 0} → Result A E → (A → Result B E) → Result B E
Ok x >>= f = f x
Err e >>= f = Err e

-- a line feed
abbrev pub is_line_feed : ℕ → Bool
is_line_feed byte = byte == 10

-- a space, a tab or a carriage return
abbrev pub is_separator : ℕ → Bool
is_separator byte = byte == 32 || byte == 9 || byte == 13

-- the lines of a text: what stands between its line feeds
unfoldable pub lines_of : List ℕ → List (List ℕ)
lines_of text = slice_split is_line_feed text

-- the tokens of a line: what stands between its separators, except where that is empty
unfoldable pub tokens_of : List ℕ → List (List ℕ)
tokens_of line = filter (λ token. nat_lt 0 (length token)) (slice_split is_separator line)

-- the number that one or more digits write, at most 2^64 - 1
unfoldable pub numeral_of : ℕ → List ℕ → Result ℕ LineCause
numeral_of radix digits =
    if length digits == 0 || not (list_all (λ digit. is_digit digit radix) digits) then Err NotANumber
    else (if nat_lt (digits_value radix digits) (2 ^ 64) then Ok (digits_value radix digits) else Err TooLarge)

-- the token begins with `0x` or `0X`
unfoldable pub is_hexadecimal : List ℕ → Bool
is_hexadecimal token = starts_with nat_eq token (codes "0x") || starts_with nat_eq token (codes "0X")

-- the number that a token writes: decimal, or hexadecimal after `0x` or `0X`, where a digit may be of either case
unfoldable pub number_of : List ℕ → Result ℕ LineCause
number_of token = if is_hexadecimal token then numeral_of 16 (drop 2 token) else numeral_of 10 token

-- The entries of a line with these tokens. The number of tokens is tested first, and then each token from the left.
unfoldable pub entries_of_tokens : List (List ℕ) → Result (List Entry) LineCause
entries_of_tokens [] = Ok []
entries_of_tokens (plain ∷ []) = Err TooFew
entries_of_tokens (plain ∷ read ∷ []) = do
  count ← number_of plain
  address ← number_of read
  Ok (replicate count Plain ++ Read address ∷ [])
entries_of_tokens (plain ∷ read ∷ write ∷ []) = do
  count ← number_of plain
  address ← number_of read
  written ← number_of write
  Ok (replicate count Plain ++ Read address ∷ Write written ∷ [])
entries_of_tokens (plain ∷ read ∷ write ∷ more ∷ others) = Err TooMany

-- the entries of a line, or what is wrong with it
unfoldable pub line_entries : List ℕ → Result (List Entry) LineCause
line_entries line = entries_of_tokens (tokens_of line)

-- a bad line, counted from 1, and what is wrong with it
pub record BadLine : Type 0 where
  pub line : ℕ
  pub cause : LineCause

-- what is wrong with a line, reported with the number of that line
abbrev pub in_line : {A : Type 0} → ℕ → Result A LineCause → Result A BadLine
in_line number (Ok x) = Ok x
in_line number (Err cause) = Err (record { line = number; cause = cause })

-- the entries of lines, one line's after another's, or the first bad line, where the first line has this number
unfoldable pub entries_of_lines : ℕ → List (List ℕ) → Result (List Entry) BadLine
entries_of_lines number [] = Ok []
entries_of_lines number (line ∷ lines) = do
  first ← in_line number (line_entries line)
  others ← entries_of_lines (number + 1) lines
  Ok (first ++ others)

-- the entries of a text, or its first bad line
unfoldable pub trace_entries : List ℕ → Result (List Entry) BadLine
trace_entries text = entries_of_lines 1 (lines_of text)

-- a bad line of a core's trace is a fault
abbrev pub in_trace : {A : Type 0} → ℕ → Result A BadLine → Result A Fault
in_trace core (Ok x) = Ok x
in_trace core (Err bad) = Err (TraceLine core bad.line bad.cause)

-- a trace has at most 2^62 entries
unfoldable pub limited : ℕ → List Entry → Result (List Entry) Fault
limited core entries = if nat_le (length entries) (2 ^ 62) then Ok entries else Err (TraceTooLong core)

-- the entries of a core's trace, or the fault by which it is refused: its first bad line, or else its length
unfoldable pub trace_answer : ℕ → List ℕ → Result (List Entry) Fault
trace_answer core text = in_trace core (trace_entries text) >>= limited core

-- What is read of lines.
--     kept entries      the entries, where they are not too many
--     appended so_far more, joined so_far more      what is kept with some more, or with what is kept of others
--     kept_of lines      what is kept of the entries of lines, or their first bad line
--     kept_from so_far number lines      the same after what was kept so far, where the first line has this number
--     IsReadUpTo text before count rest after      the first `count` lines of a text are read, and `rest` is left of it
--     IsReadingOf lines reading, IsUnreadOf lines unread      what is read of lines, and why they are not read
--     IsRead lines result      either of these
--     told_behind before unread      why lines that follow this many others are not read
--     fault_of core unread      the fault of a core's trace whose lines are not read
--     line_told unread, lines_told result      how many lines there are at least
use Rattle.std.specs.Prelude.{◌≡◌, ⊤, ℕ, ◌+◌, ◌^◌, ◌≤◌, nat_le, List, [], ◌∷◌, ◌++◌, length, Option, Some, None, option_and_then, Result, Ok, Err, MatchResult, if◌then◌else◌}
use Rattle.sim_base.specs.declared.fault.Fault.{Fault}
use Rattle.sim_base.specs.declared.fault.Fault.TheVariants as fault
use Rattle.sim_base.specs.declared.trace.Entry.{Entry}
use Rattle.sim_base.specs.TraceText.{◌>>=◌, BadLine, in_line, line_entries, lines_of, entries_of_lines}
use Rattle.cpu_trace.specs.declared.reading.Reading.{Reading}
use Rattle.cpu_trace.specs.declared.reading.Unread.{Unread}
use Rattle.cpu_trace.specs.declared.reading.Unread.TheVariants as unread

-- the entries, where there are at most 2^62 of them
unfoldable pub kept : List Entry → Option (List Entry)
kept entries = if nat_le (length entries) (2 ^ 62) then Some entries else None

-- what was kept so far, if anything was, with more entries
abbrev pub appended : Option (List Entry) → List Entry → Option (List Entry)
appended so_far more = option_and_then (λ entries. kept (entries ++ more)) so_far

-- what was kept so far with what was kept of others, if anything was of both
abbrev pub joined : Option (List Entry) → Option (List Entry) → Option (List Entry)
joined so_far more = option_and_then (appended so_far) more

-- what is kept of the entries of lines, or their first bad line
unfoldable pub kept_of : List (List ℕ) → Result (Option (List Entry)) BadLine
kept_of lines = entries_of_lines 1 lines >>= λ entries. Ok (kept entries)

-- what is kept from a line on, after what was kept so far
unfoldable pub kept_from : Option (List Entry) → ℕ → List (List ℕ) → Result (Option (List Entry)) BadLine
kept_from so_far number [] = Ok so_far
kept_from so_far number (line ∷ lines) =
    in_line number (line_entries line) >>= λ entries. kept_from (appended so_far entries) (number + 1) lines

-- The first `count` lines of a text are read, and `rest` is left of it: what is kept before them and after them.
pub record IsReadUpTo (text : List ℕ) (before : Option (List Entry)) (count : ℕ) (rest : List ℕ)
    (after : Option (List Entry)) : Type 0 where
  pub counted : length (lines_of text) ≡ count + length (lines_of rest)
  pub is_kept : (number : ℕ)
      → kept_from before number (lines_of text) ≡ kept_from after (number + count) (lines_of rest)
  pub shorter : count + length rest ≤ length text

-- what is read of lines: how many they are, and what is kept of their entries
pub record IsReadingOf (lines : List (List ℕ)) (reading : Reading) : Type 0 where
  pub counted : reading.lines ≡ length lines
  pub is_kept : kept_of lines ≡ Ok reading.kept

-- why lines are not read: their first bad line, or out of memory, which says nothing of them
abbrev pub IsUnreadOf : List (List ℕ) → Unread → Type 0
IsUnreadOf lines (unread.BadLine line cause) = kept_of lines ≡ Err (record { line = line; cause = cause })
IsUnreadOf lines unread.Memory = ⊤

-- lines are read, or there is a reason why not
abbrev pub IsRead : List (List ℕ) → Result Reading Unread → Type 0
IsRead lines result = MatchResult result (IsReadingOf lines) (IsUnreadOf lines)

-- why lines that follow this many others are not read
abbrev pub told_behind : ℕ → Unread → Unread
told_behind before (unread.BadLine line cause) = unread.BadLine (before + line) cause
told_behind before unread.Memory = unread.Memory

-- the fault of a core's trace whose lines are not read
abbrev pub fault_of : ℕ → Unread → Fault
fault_of core (unread.BadLine line cause) = fault.TraceLine core line cause
fault_of core unread.Memory = fault.Memory

-- the number of the bad line that is reported, and 0 where none is
abbrev pub line_told : Unread → ℕ
line_told (unread.BadLine line cause) = line
line_told unread.Memory = 0

-- how many lines there are, or how many at least, by what was read of them
abbrev pub lines_told : Result Reading Unread → ℕ
lines_told (Ok reading) = reading.lines
lines_told (Err why) = line_told why

-- What the reader of statistics makes of a record.
--     line_value scope id name fields      the value of the line of a count, if a record is one
--     count_in, sum_in, cycle_in row scope id name record      the value of a count's line, or the fault of its row
--     number_in kind row scope id name record      the number of a counter of this kind
--     has_text k text record      a field of a record is this text
--     is_stats_header fields      a record is the header
use Rattle.std.specs.Prelude.{ℕ, ◌^◌, ◌==◌, nat_lt, Bool, false, ◌&&◌, List, length, codes, decimal, option_map, option_and_then, Option, Some, None, Result, Ok, Err, if◌then◌else◌}
use Rattle.std.specs.Str.{bytes_eq}
use Rattle.sim_base.specs.TraceText.{◌>>=◌}
use Rattle.sim_base.specs.declared.fault.Fault.{Fault}
use Rattle.sim_base.specs.declared.fault.Fault.TheVariants.{CheckRow}
use Rattle.rule_check.specs.Fields.{is_empty, text_at}
use Rattle.run_tables.specs.Numbers.{number_written}
use Rattle.statistics.specs.declared.counters.CounterKind.{CounterKind}
use Rattle.statistics.specs.declared.counters.CounterKind.TheVariants.{Count, Sum, Cycle}

-- whether a record is the line of a count, whatever its value
abbrev pub is_line : List ℕ → ℕ → List ℕ → List (List ℕ) → Bool
is_line scope id name fields =
    (length fields == 4) && bytes_eq (text_at fields 0) scope && bytes_eq (text_at fields 1) (decimal id)
    && bytes_eq (text_at fields 2) name

-- the number in a field, or none where it is empty, if it is one of these
abbrev pub optional_written : List ℕ → Option (Option ℕ)
optional_written text = if is_empty text then Some None else option_map (λ number. Some number) (number_written text)

-- the value of the line of a count, if a record is one
unfoldable pub line_value : List ℕ → ℕ → List ℕ → List (List ℕ) → Option (Option ℕ)
line_value scope id name fields = if is_line scope id name fields then optional_written (text_at fields 3) else None

-- a value of a row, which is refused where it is missing
abbrev pub or_refused : {A : Type 0} → ℕ → Option A → Result A Fault
or_refused row (Some value) = Ok value
or_refused row None = Err (CheckRow row)

-- a number of a row, which is refused if it has more than 64 bits
abbrev pub narrow : ℕ → ℕ → Result ℕ Fault
narrow row number = if nat_lt number (2 ^ 64) then Ok number else Err (CheckRow row)

-- a number of a row that may be missing, which is refused if it has more than 64 bits
abbrev pub narrow_optional : ℕ → Option ℕ → Result (Option ℕ) Fault
narrow_optional row None = Ok None
narrow_optional row (Some number) = narrow row number >>= (λ found. Ok (Some found))

-- the value of the line of a count, which must stand in a row
unfoldable pub value_in : ℕ → List ℕ → ℕ → List ℕ → Option (List (List ℕ)) → Result (Option ℕ) Fault
value_in row scope id name line = or_refused row (option_and_then (line_value scope id name) line)

-- a sum
unfoldable pub sum_in : ℕ → List ℕ → ℕ → List ℕ → Option (List (List ℕ)) → Result ℕ Fault
sum_in row scope id name line = value_in row scope id name line >>= or_refused row

-- a count
unfoldable pub count_in : ℕ → List ℕ → ℕ → List ℕ → Option (List (List ℕ)) → Result ℕ Fault
count_in row scope id name line = sum_in row scope id name line >>= narrow row

-- a cycle that may be missing
unfoldable pub cycle_in : ℕ → List ℕ → ℕ → List ℕ → Option (List (List ℕ)) → Result (Option ℕ) Fault
cycle_in row scope id name line = value_in row scope id name line >>= narrow_optional row

-- the number of a counter of this kind
abbrev pub number_in : CounterKind → ℕ → List ℕ → ℕ → List ℕ → Option (List (List ℕ)) → Result (Option ℕ) Fault
number_in Count row scope id name line = count_in row scope id name line >>= (λ count. Ok (Some count))
number_in Sum row scope id name line = sum_in row scope id name line >>= (λ sum. Ok (Some sum))
number_in Cycle row scope id name line = cycle_in row scope id name line

-- a field of a record is this text
abbrev pub has_text : ℕ → List ℕ → Option (List (List ℕ)) → Bool
has_text k text None = false
has_text k text (Some fields) = bytes_eq (text_at fields k) text

-- whether a record is the header
unfoldable pub is_stats_header : List (List ℕ) → Bool
is_stats_header fields =
    (length fields == 4) && bytes_eq (text_at fields 0) (codes "scope") && bytes_eq (text_at fields 1) (codes "id")
    && bytes_eq (text_at fields 2) (codes "name") && bytes_eq (text_at fields 3) (codes "value")

-- whether a record that may be missing is the header
abbrev pub is_header_row : Option (List (List ℕ)) → Bool
is_header_row None = false
is_header_row (Some fields) = is_stats_header fields

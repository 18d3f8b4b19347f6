-- The number that a field of the statistics writes.
--     number_written text      the number, if it has 128 bits and is written without a leading zero
use Rattle.std.specs.Prelude.{ℕ, ◌^◌, ◌==◌, nat_lt, Bool, not, ◌&&◌, List, length, slice_index, Option, Some, None, if◌then◌else◌}
use Rattle.rule_check.specs.Numbers.{is_number, value_of}

-- the first of several digits is a zero
abbrev pub has_leading_zero : List ℕ → Bool
has_leading_zero text = nat_lt 1 (length text) && (slice_index text 0 == 48)

-- the number that digits write, if it has 128 bits
abbrev pub wide_value : List ℕ → Option ℕ
wide_value digits = if nat_lt (value_of digits) (2 ^ 128) then Some (value_of digits) else None

-- the number that a text writes as `decimal` does
abbrev pub number_written : List ℕ → Option ℕ
number_written text = if is_number text && not (has_leading_zero text) then wide_value text else None

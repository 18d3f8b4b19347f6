-- Numbers in the fields of a table.
--     value_of digits      the number that decimal digits write
--     number_below limit text      the number in a field, if it has one below a limit
--     number_limit      each number of a table is below this one
use Rattle.std.specs.Prelude.{ℕ, ◌+◌, ◌-◌, ◌*◌, ◌^◌, ◌==◌, nat_lt, min, Bool, not, ◌&&◌, List, length, fold, Option, Some, None, if◌then◌else◌}
use Rattle.std.specs.List.{list_all}
use Rattle.std.specs.Char.{is_ascii_digit}

-- each number of a table is below this one
abbrev pub number_limit : ℕ
number_limit = 2 ^ 62

-- the number, followed by one more digit
abbrev pub with_digit : ℕ → ℕ → ℕ
with_digit number digit = number * 10 + (digit - 48)

-- the number, followed by one more digit, where the limit stands for every number not below it
abbrev pub capped_digit : ℕ → ℕ → ℕ
capped_digit number digit = min (with_digit number digit) number_limit

-- the number that decimal digits write
unfoldable pub value_of : List ℕ → ℕ
value_of digits = fold with_digit 0 digits

-- the number that a text writes, if it has only digits, where the limit stands for every number not below it
abbrev pub digits_value : List ℕ → Option ℕ
digits_value text = if list_all is_ascii_digit text then Some (fold capped_digit 0 text) else None

-- one or more digits and nothing else; leading zeros are allowed
abbrev pub is_number : List ℕ → Bool
is_number text = not (length text == 0) && list_all is_ascii_digit text

-- the number in a field, if it has one below a limit
unfoldable pub number_below : ℕ → List ℕ → Option ℕ
number_below limit text = if is_number text && nat_lt (value_of text) limit then Some (value_of text) else None

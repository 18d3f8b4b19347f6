-- Numbers as a screen shows them: at most four digits that say something. A number is given in halves of a thousandth,
-- and the place of its last digit as a power of ten of thousandths.
--     halves_of dividend divisor      a quotient in halves of a thousandth, rounded down; none for the divisor 0
--     decimals_of power, unit_of power      how many decimals, and the unit, by the place of the last digit
--     digits_of power halves      its digits up to there, rounded half up
--     power_of form halves      the place of its last digit
--     number_text number      a number as a screen shows it
use Rattle.std.specs.Prelude.{ℕ, ◌-◌, ◌*◌, ◌/◌, ◌%◌, ◌^◌, ◌==◌, nat_lt, nat_le, Bool, true, false, ◌&&◌, ◌||◌, min, List, [], ◌++◌, codes, decimal, find, unwrap_or, Option, Some, None, if◌then◌else◌}
use Rattle.std.specs.Int.{div_ceil}
use Rattle.std.specs.List.{range_with_len}
use Rattle.measures.specs.declared.number.Number.{Number}
use Rattle.measures.specs.declared.number.NumberForm.{NumberForm}
use Rattle.measures.specs.declared.number.NumberForm.TheVariants.{Mean, Percent, Count}

-- a quotient in halves of a thousandth, rounded down; none for the divisor 0; a dividend above 2^70 counts as 2^70
abbrev pub halves_of : ℕ → ℕ → Option ℕ
halves_of dividend divisor = if divisor == 0 then None else Some (2000 * min dividend (2 ^ 70) / divisor)

-- how many decimals a number below ten thousand has at most
abbrev pub most_decimals : NumberForm → ℕ
most_decimals Mean = 3
most_decimals Percent = 1
most_decimals Count = 0

-- how many decimals a number has, in its unit
unfoldable pub decimals_of : ℕ → ℕ
decimals_of power = if nat_lt power 4 then 3 - power else 2 - (power - 4) % 3

-- its unit: none, thousands, millions and so on
unfoldable pub unit_of : ℕ → List ℕ
unit_of power =
    if nat_lt power 4 then []
    else (if nat_lt power 7 then codes "k"
    else (if nat_lt power 10 then codes "M"
    else (if nat_lt power 13 then codes "G"
    else (if nat_lt power 16 then codes "T"
    else (if nat_lt power 19 then codes "P"
    else codes "E")))))

-- its digits, read as a number and rounded half up
unfoldable pub digits_of : ℕ → ℕ → ℕ
digits_of power halves = div_ceil (halves / 10 ^ power) 2

abbrev pub is_percent : NumberForm → Bool
is_percent Percent = true
is_percent _ = false

-- The digits are below this number: four where there are no decimals and no unit, or one decimal of a percentage, and
-- else three.
abbrev pub limit_of : NumberForm → ℕ → ℕ
limit_of form power = if (power == 3) || (is_percent form && (power == 2)) then 10000 else 1000

-- with its last digit there a number has no more decimals than its form, and few digits
unfoldable pub fits : NumberForm → ℕ → ℕ → Bool
fits form power halves =
    (nat_lt 3 power || nat_le (decimals_of power) (most_decimals form))
    && nat_lt (digits_of power halves) (limit_of form power)

-- the place of the last digit: the least that fits
unfoldable pub least_power : NumberForm → ℕ → Option ℕ
least_power form halves = find (λ power. fits form power halves) (range_with_len 0 21)

-- the place of the last digit, or the last place of all where none fits
unfoldable pub power_of : NumberForm → ℕ → ℕ
power_of form halves = unwrap_or (least_power form halves) 21

-- a number of tenths, as `45.6`, of hundredths, as `4.56`, and of thousandths, as `0.456`
abbrev pub tenths_text : ℕ → List ℕ
tenths_text tenths = decimal (tenths / 10) ++ codes "." ++ decimal (tenths % 10)

abbrev pub hundredths_text : ℕ → List ℕ
hundredths_text hundredths =
    decimal (hundredths / 100) ++ codes "." ++ decimal (hundredths / 10 % 10) ++ decimal (hundredths % 10)

abbrev pub thousandths_text : ℕ → List ℕ
thousandths_text thousandths =
    decimal (thousandths / 1000) ++ codes "." ++ decimal (thousandths / 100 % 10) ++ decimal (thousandths / 10 % 10)
    ++ decimal (thousandths % 10)

-- digits with so many decimals
abbrev pub digits_text : ℕ → ℕ → List ℕ
digits_text decimals digits =
    if decimals == 0 then decimal digits
    else (if decimals == 1 then tenths_text digits
    else (if decimals == 2 then hundredths_text digits
    else thousandths_text digits))

-- a number of a form
unfoldable pub written : NumberForm → ℕ → List ℕ
written form halves =
    digits_text (decimals_of (power_of form halves)) (digits_of (power_of form halves) halves)
    ++ unit_of (power_of form halves)

abbrev pub text_or_dash : NumberForm → Option ℕ → List ℕ
text_or_dash form (Some halves) = written form halves
text_or_dash form None = codes "-"

-- a number, or a dash for one that is not there
abbrev pub number_text : Number → List ℕ
number_text number = text_or_dash number.form number.halves

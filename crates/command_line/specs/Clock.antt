-- The frequency of a clock, as words state it in MHz.
--     clock_of text      what a text states, in kHz
use Rattle.std.specs.Prelude.{ℕ, ◌+◌, ◌-◌, ◌*◌, ◌==◌, ◌&&◌, nat_le, nat_lt, List, fold, Option, Some, None, if◌then◌else◌}
use Rattle.command_line.specs.declared.clock.Reading.{Reading}
use Rattle.command_line.specs.declared.clock.DigitPlace.{DigitPlace}
use Rattle.command_line.specs.declared.clock.DigitPlace.TheVariants.{Whole, Tenth, Hundredth, Thousandth, End}

-- a point, which stands behind whole digits alone
abbrev pub point_at : ℕ → DigitPlace → Option Reading
point_at thousandths Whole = Some (record { thousandths = thousandths; place = Tenth })
point_at thousandths _ = None

abbrev pub with_point : Reading → Option Reading
with_point read = point_at read.thousandths read.place

-- a digit at a place; none stands behind the thousandths
abbrev pub digit_at : ℕ → DigitPlace → ℕ → Option Reading
digit_at sum Whole digit = Some (record { thousandths = 10 * sum + 1000 * digit; place = Whole })
digit_at sum Tenth digit = Some (record { thousandths = sum + 100 * digit; place = Hundredth })
digit_at sum Hundredth digit = Some (record { thousandths = sum + 10 * digit; place = Thousandth })
digit_at sum Thousandth digit = Some (record { thousandths = sum + digit; place = End })
digit_at sum End digit = None

abbrev pub with_digit : Reading → ℕ → Option Reading
with_digit read digit = digit_at read.thousandths read.place digit

-- one byte more: a point, or a digit of a number that is not too large
abbrev pub with_byte : Reading → ℕ → Option Reading
with_byte read byte =
    if byte == 46 then with_point read
    else if nat_le 48 byte && nat_le byte 57 && nat_lt read.thousandths 1000000000 then with_digit read (byte - 48)
    else None

abbrev pub read_on : Option Reading → ℕ → Option Reading
read_on (Some read) byte = with_byte read byte
read_on None byte = None

-- a number of thousandths that is above 0 and below a million
abbrev pub in_range : Option Reading → Option ℕ
in_range (Some read) =
    if nat_lt 0 read.thousandths && nat_lt read.thousandths 1000000000 then Some read.thousandths else None
in_range None = None

-- the frequency that a text states in MHz, in kHz: a decimal number with at most three places behind the point, above 0
-- and below a million
unfoldable pub clock_of : List ℕ → Option ℕ
clock_of text = in_range (fold read_on (Some (record { thousandths = 0; place = Whole })) text)

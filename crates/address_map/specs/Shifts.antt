-- Where the fields of an address stand in the number of its line, each of which has a power of two of values.
--     digit_by d line      what stands in a line's number above some bits and under a mask
--     IsDigit s field d      the value of a field stands there, in each line's number
--     IsDigits s digits      so does that of each field
use Rattle.std.specs.Prelude.{◌≡◌, ℕ, ◌/◌, ◌^◌, bit_and}
use Rattle.sim_base.specs.declared.config.Config.{Config}
use Rattle.sim_base.specs.declared.place.Field.{Field}
use Rattle.sim_base.specs.declared.place.Field.TheVariants.{Channel, Column, Rank, Group, Bank, Row}
use Rattle.sim_base.specs.Places.{digit_of}
use Rattle.address_map.specs.declared.digits.Digit.{Digit}
use Rattle.address_map.specs.declared.digits.Digits.{Digits}

-- what stands in a line's number above some bits and under a mask
abbrev pub digit_by : Digit → ℕ → ℕ
digit_by d line = bit_and (line / 2 ^ d.shift) d.mask

-- the value of a field stands there, in each line's number
pub record IsDigit (s : Config) (field : Field) (d : Digit) : Type 0 where
  pub same : (line : ℕ) → digit_by d line ≡ digit_of s field s.fields line

-- the value of each field stands at its digit, in each line's number
pub record IsDigits (s : Config) (digits : Digits) : Type 0 where
  pub channel : IsDigit s Channel digits.channel
  pub rank : IsDigit s Rank digits.rank
  pub group : IsDigit s Group digits.group
  pub bank : IsDigit s Bank digits.bank
  pub row : IsDigit s Row digits.row
  pub column : IsDigit s Column digits.column

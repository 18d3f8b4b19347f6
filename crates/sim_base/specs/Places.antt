-- Where an address lies: its fields are digits of the line's number, from the low end.
--     field_of s address field      the value of a field in an address
--     place_of s address      where an address lies
--     bank_in place      the bank of a place
--     number_of_bank bank, bank_at number      the number of a bank, and the bank with a number
--     is_bank a b, is_line a b      the same bank, and the same line
use Rattle.std.specs.Prelude.{ℕ, ◌+◌, ◌*◌, ◌/◌, ◌%◌, ◌==◌, Bool, ◌&&◌, List, [], ◌∷◌, if◌then◌else◌}
use Rattle.sim_base.specs.declared.config.Config.{Config}
use Rattle.sim_base.specs.Fields.{is_field}
use Rattle.sim_base.specs.declared.place.Field.{Field}
use Rattle.sim_base.specs.declared.place.Field.TheVariants.{Channel, Column, Rank, Group, Bank, Row}
use Rattle.sim_base.specs.declared.place.BankId.{BankId}
use Rattle.sim_base.specs.declared.place.Place.{Place}

-- how many values a field has
abbrev pub field_size : Config → Field → ℕ
field_size s Channel = s.channels
field_size s Column = s.columns
field_size s Rank = s.ranks
field_size s Group = s.groups
field_size s Bank = 4
field_size s Row = s.rows

-- the value of a field in the number x, whose digits from the low end are these fields; 0 for a field that is not among
-- them
unfoldable pub digit_of : Config → Field → List Field → ℕ → ℕ
digit_of s field [] x = 0
digit_of s field (f ∷ fs) x =
    if is_field field f then x % field_size s field else digit_of s field fs (x / field_size s f)

-- the value of a field in an address, whose low six bits lie within the line
unfoldable pub field_of : Config → ℕ → Field → ℕ
field_of s address field = digit_of s field s.fields (address / 64)

-- where an address lies
unfoldable pub place_of : Config → ℕ → Place
place_of s address =
    record {
      channel = field_of s address Channel;
      rank = field_of s address Rank;
      group = field_of s address Group;
      bank = field_of s address Bank;
      row = field_of s address Row;
      column = field_of s address Column;
    }

-- whether two banks are equal
abbrev pub is_bank : BankId → BankId → Bool
is_bank a b = (a.rank == b.rank) && (a.group == b.group) && (a.bank == b.bank)

-- the bank of a place
abbrev pub bank_in : Place → BankId
bank_in place = record { rank = place.rank; group = place.group; bank = place.bank }

-- the number of a bank among those of all ranks, each of which has places for four groups of four banks
abbrev pub number_of_bank : BankId → ℕ
number_of_bank bank = (bank.rank * 4 + bank.group) * 4 + bank.bank

-- the bank with a number
abbrev pub bank_at : ℕ → BankId
bank_at number = record { rank = number / 16; group = number / 4 % 4; bank = number % 4 }

-- whether two places are of one line: each field is equal
abbrev pub is_line : Place → Place → Bool
is_line a b = (a.channel == b.channel) && is_bank (bank_in a) (bank_in b) && (a.row == b.row) && (a.column == b.column)

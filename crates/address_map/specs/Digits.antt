-- A place as the digits of a line's number.
--     value_of place field      the value of a field
--     with_value place field value      the place with another value of one field
--     number_of s place fields      the number whose digits, in these fields from the low end, are the place's values
use Rattle.std.specs.Prelude.{ℕ, ◌+◌, ◌*◌, List, [], ◌∷◌}
use Rattle.sim_base.specs.declared.config.Config.{Config}
use Rattle.sim_base.specs.declared.place.Field.{Field}
use Rattle.sim_base.specs.declared.place.Field.TheVariants.{Channel, Column, Rank, Group, Bank, Row}
use Rattle.sim_base.specs.declared.place.Place.{Place}
use Rattle.sim_base.specs.Places.{field_size}

-- the value of a field in a place
abbrev pub value_of : Place → Field → ℕ
value_of place Channel = place.channel
value_of place Column = place.column
value_of place Rank = place.rank
value_of place Group = place.group
value_of place Bank = place.bank
value_of place Row = place.row

-- a place with another value of one field
abbrev pub with_value : Place → Field → ℕ → Place
with_value place Channel value = record place { channel = value }
with_value place Column value = record place { column = value }
with_value place Rank value = record place { rank = value }
with_value place Group value = record place { group = value }
with_value place Bank value = record place { bank = value }
with_value place Row value = record place { row = value }

-- the number whose digits, in these fields from the low end, are a place's values
unfoldable pub number_of : Config → Place → List Field → ℕ
number_of s place [] = 0
number_of s place (f ∷ fs) = number_of s place fs * field_size s f + value_of place f

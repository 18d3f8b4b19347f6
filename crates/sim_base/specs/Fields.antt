-- The fields of an address.
--     is_field a b      the same field
--     FieldsInOrder fields      each field stands once in the order, and that of the rank at most once
use Rattle.std.specs.Prelude.{◌≡◌, ◌≤◌, Bool, true, false, List, count_by}
use Rattle.sim_base.specs.declared.place.Field.{Field}
use Rattle.sim_base.specs.declared.place.Field.TheVariants.{Channel, Column, Rank, Group, Bank, Row}

-- whether two fields of an address are equal
abbrev pub is_field : Field → Field → Bool
is_field Channel Channel = true
is_field Column Column = true
is_field Rank Rank = true
is_field Group Group = true
is_field Bank Bank = true
is_field Row Row = true
is_field _ _ = false

-- each field stands once in the order; only that of the rank may be left out
pub record FieldsInOrder (fields : List Field) : Type 0 where
  pub channel : count_by (is_field Channel) fields ≡ 1
  pub column : count_by (is_field Column) fields ≡ 1
  pub rank : count_by (is_field Rank) fields ≤ 1
  pub group : count_by (is_field Group) fields ≡ 1
  pub bank : count_by (is_field Bank) fields ≡ 1
  pub row : count_by (is_field Row) fields ≡ 1

-- The order of an address's fields in a document.
--     items_at ms key      the items of an array
--     each_once order      each field occurs once in the order; only the rank may be left out
--     fields_of ms      the order that a document states
use Rattle.std.specs.Prelude.{ℕ, List, [], ◌∷◌, Bool, true, ◌==◌, nat_le, ◌&&◌, if◌then◌else◌, codes, Option, Some, None, is_some, option_and_then, count_by, Result, Ok, Err}
use Rattle.std.specs.Str.{bytes_eq}
use Rattle.toml.specs.Data.{Items, no_items, item, Members, as_str, as_array}
use Rattle.sim_base.specs.Fields.{is_field}
use Rattle.sim_base.specs.declared.fault.Fault.{Fault}
use Rattle.sim_base.specs.declared.fault.Fault.TheVariants.{ConfigKey, ConfigRange}
use Rattle.sim_base.specs.declared.key.Key.{Key}
use Rattle.sim_base.specs.declared.key.Key.TheVariants as key
use Rattle.sim_base.specs.declared.place.Field.{Field}
use Rattle.sim_base.specs.declared.place.Field.TheVariants.{Channel, Column, Rank, Group, Bank, Row}
use Rattle.sim_base.specs.TraceText.{◌>>=◌}
use Rattle.config_reader.specs.Document.Keys.{data_at}

-- the items at a key, if it holds an array
abbrev pub items_at : Members → Key → Option Items
items_at ms key = option_and_then as_array (data_at ms key)

-- the field of a name
abbrev pub field_named : Option (List ℕ) → Result Field Fault
field_named None = Err (ConfigRange key.Fields)
field_named (Some name) =
    if bytes_eq name (codes "channel") then Ok Channel else
    if bytes_eq name (codes "column") then Ok Column else
    if bytes_eq name (codes "rank") then Ok Rank else
    if bytes_eq name (codes "group") then Ok Group else
    if bytes_eq name (codes "bank") then Ok Bank else
    if bytes_eq name (codes "row") then Ok Row else Err (ConfigRange key.Fields)

-- the fields that the items name, in their order
abbrev pub fields_named : Items → Result (List Field) Fault
fields_named no_items = Ok []
fields_named (item d ds) = do
  first ← field_named (as_str d)
  others ← fields_named ds
  Ok (first ∷ others)

-- each item is a text
abbrev pub are_texts : Items → Bool
are_texts no_items = true
are_texts (item d ds) = is_some (as_str d) && are_texts ds

-- each field occurs once in the order; only the rank may be left out
abbrev pub each_once : List Field → Bool
each_once order =
    (count_by (is_field Channel) order == 1) && (count_by (is_field Column) order == 1)
    && nat_le (count_by (is_field Rank) order) 1
    && (count_by (is_field Group) order == 1) && (count_by (is_field Bank) order == 1)
    && (count_by (is_field Row) order == 1)

-- the order of fields that the names give
unfoldable pub order_of : Items → Result (List Field) Fault
order_of ds = do
  order ← fields_named ds
  if each_once order then Ok order else Err (ConfigRange key.Fields)

-- the order that an array of texts states
abbrev pub fields_from : Option Items → Result (List Field) Fault
fields_from None = Err (ConfigKey key.Fields)
fields_from (Some ds) = if are_texts ds then order_of ds else Err (ConfigKey key.Fields)

-- the order of the fields: anything but an array of texts is refused first, and then any other wrong list
unfoldable pub fields_of : Members → Result (List Field) Fault
fields_of ms = fields_from (option_and_then as_array (data_at ms key.Fields))

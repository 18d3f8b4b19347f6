-- What a configuration's document means.
--     keys_of ms      what its keys say, or the first fault of one
--     config_of ms      what its keys say, where the relations between them hold, or its first fault
--     document_of bytes      what its bytes say, or its first fault
use Rattle.std.specs.Prelude.{ℕ, List, Option, Some, None, Result, Ok, Err, if◌then◌else◌}
use Rattle.std.specs.Str.{is_utf8}
use Rattle.toml.specs.Data.{Members}
use Rattle.toml.specs.Parse.{parse_document}
use Rattle.toml.specs.View.{table_view}
use Rattle.sim_base.specs.Keys.{numbers_before_fields, numbers_behind_fields}
use Rattle.sim_base.specs.Values.{Values, values_from}
use Rattle.config_reader.specs.declared.draft.Draft.{Draft}
use Rattle.sim_base.specs.declared.fault.Fault.{Fault}
use Rattle.sim_base.specs.declared.fault.Fault.TheVariants.{ConfigSyntax}
use Rattle.config_reader.specs.Document.Fields.{fields_of}
use Rattle.sim_base.specs.TraceText.{◌>>=◌}
use Rattle.config_reader.specs.Document.Keys.{known_of}
use Rattle.config_reader.specs.Document.Links.{overrides_of}
use Rattle.config_reader.specs.Document.Numbers.{numbers_of, number_in, end_of}
use Rattle.config_reader.specs.Document.Relations.{relations_of}
pub mod Keys
pub mod Numbers
pub mod Fields
pub mod Links
pub mod Relations

-- what a draft says
abbrev pub draft_values : Draft → Values
draft_values d =
    values_from (number_in (table_view d.numbers.table.now)) d.fields.items d.overrides.items d.ends_drained

-- what the keys say: the numbers are tested one after the other, with the order of the fields among them; then come
-- what ends the run and the latencies that links have of their own, and a key that no configuration has is refused
unfoldable pub keys_of : Members → Result Values Fault
keys_of ms = do
  _ ← numbers_of ms numbers_before_fields
  fields ← fields_of ms
  _ ← numbers_of ms numbers_behind_fields
  ends_drained ← end_of ms
  overrides ← overrides_of ms
  _ ← known_of ms
  Ok (values_from (number_in ms) fields overrides ends_drained)

-- what the keys say, where the relations between them hold
unfoldable pub config_of : Members → Result Values Fault
config_of ms = do
  v ← keys_of ms
  _ ← relations_of v
  Ok v

-- a text, from what TOML makes of it
abbrev pub config_from : Option Members → Result Values Fault
config_from None = Err ConfigSyntax
config_from (Some ms) = config_of ms

-- what the bytes of a document say: bytes that are not UTF-8, and a text that is not TOML, are refused as such
unfoldable pub document_of : List ℕ → Result Values Fault
document_of bytes = if is_utf8 bytes then config_from (parse_document bytes) else Err ConfigSyntax

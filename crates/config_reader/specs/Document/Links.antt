-- The links of a document that have a latency of their own.
--     override_of ms      what one item states
--     overrides_of ms      what a document states
use Rattle.std.specs.Prelude.{List, [], ◌∷◌, ◌==◌, ◌&&◌, if◌then◌else◌, Option, Some, None, is_some, Result, Ok, Err}
use Rattle.toml.specs.Data.{Data, Items, no_items, item, Members, as_table, as_array}
use Rattle.sim_base.specs.declared.fault.Fault.{Fault}
use Rattle.sim_base.specs.declared.fault.Fault.TheVariants.{ConfigKey}
use Rattle.sim_base.specs.declared.key.Key.TheVariants as key
use Rattle.sim_base.specs.declared.overrides.Override.{Override}
use Rattle.sim_base.specs.TraceText.{◌>>=◌}
use Rattle.config_reader.specs.Document.Keys.{data_at, integer_at, number_refused_as, count_of}

-- an item has exactly the two integers, and then each is one that its key accepts; a fault names the key `link`
unfoldable pub override_of : Members → Result Override Fault
override_of ms =
    if is_some (integer_at ms key.Id) && is_some (integer_at ms key.Latency) && (count_of ms == 2)
    then (do
      link ← number_refused_as key.Link ms key.Id
      latency ← number_refused_as key.Link ms key.Latency
      Ok (record { link = link; latency = latency }))
    else Err (ConfigKey key.Link)

-- an item is a table
abbrev pub override_from : Option Members → Result Override Fault
override_from None = Err (ConfigKey key.Link)
override_from (Some ms) = override_of ms

-- the items one after the other
abbrev pub overrides_in : Items → Result (List Override) Fault
overrides_in no_items = Ok []
overrides_in (item d ds) = do
  first ← override_from (as_table d)
  others ← overrides_in ds
  Ok (first ∷ others)

-- the items of an array; a key that holds something else is refused
abbrev pub overrides_at : Option Items → Result (List Override) Fault
overrides_at None = Err (ConfigKey key.Link)
overrides_at (Some ds) = overrides_in ds

-- what stands at the key `link`, if anything does
abbrev pub overrides_from : Option Data → Result (List Override) Fault
overrides_from None = Ok []
overrides_from (Some d) = overrides_at (as_array d)

-- the overrides of a document, which need not state any
unfoldable pub overrides_of : Members → Result (List Override) Fault
overrides_of ms = overrides_from (data_at ms key.Link)

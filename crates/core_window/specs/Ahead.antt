-- What a core keeps of the next two memory entries beside their numbers.
--     IsPlaced s entry place      where a Read or a Write lies
--     IsKnown s trace ahead      where the first memory entry lies, and which entry the second is
use Rattle.std.specs.Prelude.{◌≡◌, ℕ, ◌<◌, List, length, slice_get, Some}
use Rattle.sim_base.specs.Places.{place_of}
use Rattle.sim_base.specs.declared.config.Config.{Config}
use Rattle.sim_base.specs.declared.place.Place.{Place}
use Rattle.sim_base.specs.declared.trace.Entry.{Entry}
use Rattle.sim_base.specs.declared.trace.Entry.TheVariants.{Read, Write}
use Rattle.core_window.specs.declared.issue.EntriesAhead.{EntriesAhead}

-- a Read or a Write lies at a place; the place that is kept with any entry is in a channel that exists
pub record IsPlaced (s : Config) (entry : Entry) (place : Place) : Type 0 where
  pub of_read : (address : ℕ) → entry ≡ Read address → place ≡ place_of s address
  pub of_write : (address : ℕ) → entry ≡ Write address → place ≡ place_of s address
  pub in_range : place.channel < s.channels

-- where the first of the next two memory entries lies, and which entry the second is
pub record IsKnown (s : Config) (trace : List Entry) (ahead : EntriesAhead) : Type 0 where
  pub placed : IsPlaced s ahead.entry ahead.place
  pub second : ahead.second_at < length trace → slice_get trace ahead.second_at ≡ Some ahead.second

-- Which places there are in a memory.
--     PlaceInRange s place      each field of the place is below its size
use Rattle.std.specs.Prelude.{◌<◌}
use Rattle.sim_base.specs.declared.config.Config.{Config}
use Rattle.sim_base.specs.declared.place.Place.{Place}

-- each field of a place is below its size, and a bank group has four banks
pub record PlaceInRange (s : Config) (place : Place) : Type 0 where
  pub channel : place.channel < s.channels
  pub rank : place.rank < s.ranks
  pub group : place.group < s.groups
  pub bank : place.bank < 4
  pub row : place.row < s.rows
  pub column : place.column < s.columns

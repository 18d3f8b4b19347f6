-- A memory has a place whose fields are below their sizes.
use Rattle.std.proofs.Common.{◌≡◌, true}
use Rattle.std.proofs.lemmas.Bool.{and_parts, ltb-true}
use Rattle.sim_base.specs.PlaceRange.{PlaceInRange}
use Rattle.sim_base.specs.declared.config.Config.{Config}
use Rattle.sim_base.specs.declared.place.Place.{Place}
use Rattle.sessions.specs.Addresses.{is_place}

pub in-range : (s : Config) (place : Place) → is_place s place ≡ true → PlaceInRange s place
in-range s place h =
    let a = and_parts _ _ h in
    let b = and_parts _ _ a.0 in
    let c = and_parts _ _ b.0 in
    let d = and_parts _ _ c.0 in
    let e = and_parts _ _ d.0 in
    record {
      channel = ltb-true _ _ e.0;
      rank = ltb-true _ _ e.1;
      group = ltb-true _ _ d.1;
      bank = ltb-true _ _ c.1;
      row = ltb-true _ _ b.1;
      column = ltb-true _ _ a.1;
    }

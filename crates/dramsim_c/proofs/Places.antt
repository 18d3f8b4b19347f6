-- The row of a place that is there.
use Rattle.std.proofs.Common.{◌≡◌, true, false, Option, Some, None, ap}
use Rattle.std.specs.Prelude.{is_some}
use Rattle.sim_base.specs.declared.place.Place.{Place}
use Rattle.dramsim_c.specs.CInterface.Rows.{place_row}

place-or : Place → Option Place → Place
place-or other (Some place) = place
place-or other None = other

pub same-row : (a b : Place) → Some a ≡ Some b → place_row a ≡ place_row b
unfolding place-or
same-row a b is = ap (λ (o : Option Place). place_row (place-or a o)) is

pub none-there : (a : Place) → None ≡ Some a → false ≡ true
none-there a is = ap is_some is

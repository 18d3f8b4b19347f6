-- What is still to be peeled off the rest of the number completes the place of the address.
use Rattle.std.proofs.Common.{◌≡◌, drop}
use Rattle.sim_base.specs.Places.{place_of}
use Rattle.address_map.proofs.Peeled.{peeled}
use Rattle.address_map.proofs.place_of.Given as goal

abbrev pub invariant-loop-field : goal.invariant-loop-field
invariant-loop-field l = peeled l.config l.place (drop l.field-index l.config.fields) l.number ≡ place_of l.config l.address

use Rattle.std.proofs.Common.{◌∙◌}
use Rattle.sim_base.specs.Places.{place_of}
use Rattle.dramsim_c.proofs.Places.{same-row}
use Rattle.dramsim_c.proofs.dramsim_place.Goals as goal

-- src/lib.rt:148:1
pub returns-in-Some-clause-row : goal.returns-in-Some-clause-row
returns-in-Some-clause-row c s p is h =
    c.of.ensures ∙ same-row c.in-Some.place (place_of p.config c.args.address) ((c.in-Some.ensures {u = tt}).place s p is h)

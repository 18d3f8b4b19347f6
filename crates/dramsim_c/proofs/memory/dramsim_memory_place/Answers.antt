use Rattle.std.proofs.Common.{◌∙◌}
use Rattle.sim_base.specs.Places.{place_of}
use Rattle.dramsim_c.proofs.Places.{same-row, none-there}
use Rattle.dramsim_c.proofs.memory.dramsim_memory_place.Goals as goal

pub returns-in-Some-clause-row : goal.returns-in-Some-clause-row
returns-in-Some-clause-row c m is =
    c.of.ensures ∙ same-row c.in-Some.place (place_of m.config c.args.address) ((c.in-Some.ensures {u = tt}).place m is)

pub returns-in-None-clause-found : goal.returns-in-None-clause-found
returns-in-None-clause-found c m is = none-there (place_of m.config c.args.address) ((c.in-None.ensures {u = tt}).place m is)

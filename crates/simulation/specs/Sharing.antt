-- When workers share a machine out.
--     usual_sharing      where sharing is worth its cost
--     full_sharing      from the first cycle of a run to its end
use Rattle.simulation.specs.declared.sharing.Sharing.{Sharing}

-- workers share a machine out where that is worth its cost, by measurements of this project
abbrev pub usual_sharing : Sharing
usual_sharing = record { units = 17; messages = 96; first_lap = 4096; shards = 2 }

-- workers share each machine out, from the first cycle of a run to its end, in one lap: no run is as long as 2^64 - 1
-- cycles
abbrev pub full_sharing : Sharing
full_sharing = record { units = 0; messages = 0; first_lap = 18446744073709551615; shards = 2 }

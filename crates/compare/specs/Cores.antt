-- The core that gained most against the first run, and the one that lost most.
--     amount direction change      how much a change is in a direction
--     core_change base run core      how the entries a cycle of a core have changed
--     most direction base run      the core that changed most in a direction
use Rattle.std.specs.Prelude.{ℕ, nat_lt, fold, length, slice_get, Option, Some, None, if◌then◌else◌}
use Rattle.sim_base.specs.History.{below}
use Rattle.statistics.specs.Values.{RunStats}
use Rattle.statistics.specs.declared.cores.CoreStats.{CoreStats}
use Rattle.compare.specs.Quotients.{quotient}
use Rattle.compare.specs.Changes.{change_of}
use Rattle.compare.specs.declared.changes.Change.{Change}
use Rattle.compare.specs.declared.changes.Change.TheVariants.{Rise, Fall}
use Rattle.compare.specs.declared.cores.Direction.{Direction}
use Rattle.compare.specs.declared.cores.Direction.TheVariants.{Gained, Lost}
use Rattle.compare.specs.declared.cores.Extreme.{Extreme}

-- how much a change is in a direction; 0 where it is the other one
abbrev pub amount : Direction → Option Change → ℕ
amount Gained (Some (Rise tenths)) = tenths
amount Lost (Some (Fall tenths)) = tenths
amount _ _ = 0

-- how the entries a cycle have changed of a core that may be in both runs
abbrev pub change_of_core : ℕ → ℕ → Option CoreStats → Option CoreStats → Option Change
change_of_core base_cycles cycles (Some before) (Some after) =
    change_of (quotient before.retired base_cycles) (quotient after.retired cycles)
change_of_core base_cycles cycles _ _ = None

-- how the entries a cycle have changed of the core with this number, if it is in both runs
abbrev pub core_change : RunStats → RunStats → ℕ → Option Change
core_change base run core = change_of_core base.cycles run.cycles (slice_get base.cores core) (slice_get run.cores core)

abbrev pub no_core : Extreme
no_core = record { core = 0; tenths = 0 }

-- the core that changed more, the earlier one where both did alike
abbrev pub further : Extreme → ℕ → ℕ → Extreme
further best core tenths = if nat_lt best.tenths tenths then record { core = core; tenths = tenths } else best

-- the core that changed most in a direction, of those that both runs have
unfoldable pub most : Direction → RunStats → RunStats → Extreme
most direction base run =
    fold (λ best core. further best core (amount direction (core_change base run core))) no_core
    (below (length base.cores))

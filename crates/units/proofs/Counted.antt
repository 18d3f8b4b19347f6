-- The statistics of units that stand for their parts of a run.
use Rattle.std.proofs.Common.{◌≡◌, ℕ, ◌+◌, ◌<◌, List, [], ◌∷◌, ◌++◌, length, map, get_or, refl, sym, ap, ap₂, subst, ◌∙◌, arith}
use Rattle.std.proofs.lemmas.Option.{slice_get-get_or}
use Rattle.sim_base.specs.declared.config.Config.{Config}
use Rattle.sim_base.specs.declared.message.Unit.TheVariants as unit
use Rattle.sim_base.specs.declared.trace.Entry.{Entry}
use Rattle.sim_base.specs.History.{below}
use Rattle.sim_base.specs.Machine.{run}
use Rattle.sim_base.proofs.Lists.{map_below-more}
use Rattle.sim_base.proofs.Spans.{length_run}
use Rattle.statistics.specs.Runs.{stats_of_core, stats_of_channel, stats_of}
use Rattle.statistics.specs.Values.{RunStats}
use Rattle.units.specs.Units.{unit_count}
use Rattle.units.specs.Parts.{IsPart, StandAt}
use Rattle.units.specs.declared.part.UnitState.{UnitState}
use Rattle.units.specs.declared.machine.Machine.{Machine}
use Rattle.units.proofs.Standing.{core-at_place, channel-at_place}

pub core-stands : (machine : Machine) (now : ℕ) (parts : List UnitState) (core : ℕ) (d : UnitState) → StandAt machine now parts → length parts ≡ unit_count machine.config
    → core < machine.config.cores → IsPart machine (unit.Core core) now (get_or parts core d)
core-stands machine now parts core d h e l =
    let k : core < length parts = omega (arith, e, l) in
    subst (λ u. IsPart machine u now (get_or parts core d)) (core-at_place machine.config core l) (h core (get_or parts core d) (slice_get-get_or parts core d k))

pub channel-stands : (machine : Machine) (now : ℕ) (parts : List UnitState) (channel : ℕ) (d : UnitState) → StandAt machine now parts → length parts ≡ unit_count machine.config
    → channel < machine.config.channels → IsPart machine (unit.Channel channel) now (get_or parts (machine.config.cores + channel) d)
channel-stands machine now parts channel d h e l =
    let k : machine.config.cores + channel < length parts = omega (arith, e, l) in
    subst (λ u. IsPart machine u now (get_or parts (machine.config.cores + channel) d)) (channel-at_place machine.config (machine.config.cores + channel) channel refl)
    (h (machine.config.cores + channel) (get_or parts (machine.config.cores + channel) d) (slice_get-get_or parts (machine.config.cores + channel) d k))

pub places-then : {X : Type 0} (f : ℕ → X) (k : ℕ) (xs : List X) (x : X) → xs ≡ map f (below k) → x ≡ f k → xs ++ x ∷ [] ≡ map f (below (k + 1))
places-then f k xs x e h = ap₂ (λ ys y. ys ++ y ∷ []) e h ∙ sym (map_below-more f k)

-- the statistics of all units, and of how many cycles
pub stats-are : (s : Config) (traces : List (List Entry)) (now : ℕ)
    → ◌≡◌ {A = RunStats} (record { cycles = now; cores = map (stats_of_core s traces (run s traces now)) (below s.cores); channels = map (stats_of_channel s traces (run s traces now)) (below s.channels) }) (stats_of s traces (run s traces now))
unfolding stats_of
stats-are s traces now =
    ap {B = RunStats} (λ n. record { cycles = n; cores = map (stats_of_core s traces (run s traces now)) (below s.cores); channels = map (stats_of_channel s traces (run s traces now)) (below s.channels) })
    (sym (length_run s traces now))

-- Where a run up to a limit stops.
--     stop_of sim limit      the cycle where a simulator that is run up to a limit stops
--     IsWholeUnlessDrained sim limit stop      where the configuration does not end runs drained, a stop is the limit
--     HasNoMore sim limit      a run up to a limit has no cycles from where a simulator stands
use Rattle.std.specs.Prelude.{◌≡◌, ℕ, ◌<◌, true, false, nat_lt, if◌then◌else◌}
use Rattle.sim_base.specs.Machine.{cycles_run}
use Rattle.units.specs.Runs.{ends_at}
use Rattle.units.specs.Views.{SimView}

-- Where a run up to a limit stops: at its last cycle, which is the limit, or, where the configuration ends runs drained
-- and the run is over sooner, the first cycle before which it is over. A simulator that stands there or further on
-- stays.
abbrev pub stop_of : SimView → ℕ → ℕ
stop_of sim limit =
    let cycles = cycles_run sim.machine.config sim.machine.traces.items limit in
    if nat_lt sim.now cycles then cycles else sim.now

-- where the configuration does not end runs drained, a simulator is taken up to the limit at once
abbrev pub IsWholeUnlessDrained : SimView → ℕ → ℕ → Type 0
IsWholeUnlessDrained sim limit stop = sim.machine.config.ends_drained ≡ false → stop ≡ limit

-- a run up to a limit has no cycles from where a simulator stands: it is at the limit, or the run ends there
abbrev pub HasNoMore : SimView → ℕ → Type 0
HasNoMore sim limit = sim.now < limit → ends_at sim.machine sim.now ≡ true

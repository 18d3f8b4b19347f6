-- What contracts see of a simulator.
--     SimView      the machine, how many cycles are over, and how many phases
--     machine_with s traces      a machine of a configuration, with the traces of its cores
--     first_view machine      before the first cycle
--     HasReached sim limit after      the run of the same machine, when the cycles before a limit are over
--     is_over_now, flight_now, stats_now, final_now sim      what there is to see where a simulator stands
--     outcome_now tables sim      what the cycles that are over leave
use Rattle.std.specs.Prelude.{◌≡◌, ℕ, Bool, List, Vec}
use Rattle.std.specs.declared.alloc.Global.{Global}
use Rattle.sim_base.specs.declared.config.Config.{Config}
use Rattle.sim_base.specs.declared.message.Message.{Message}
use Rattle.sim_base.specs.declared.trace.Entry.{Entry}
use Rattle.statistics.specs.Values.{RunStats, FinalView, RunOutcome}
use Rattle.statistics.specs.declared.tables.Tables.{Tables}
use Rattle.units.specs.Runs.{flight_at, is_over_at, stats_at, final_at, outcome_at}
use Rattle.units.specs.declared.machine.Machine.{Machine}

-- the run of a machine, with the number of cycles that are over, and the number of phases that they took
pub record SimView : Type 0 where
  pub machine : Machine
  pub now : ℕ
  pub phase : ℕ

-- a machine of this configuration, with these traces of its cores, by number
abbrev pub machine_with : Config → Vec (List Entry) Global → Machine
machine_with s traces = record { config = s; traces = traces }

-- a machine before the first cycle
abbrev pub first_view : Machine → SimView
first_view machine = record { machine = machine; now = 0; phase = 0 }

-- the run of the same machine, when the cycles before a limit are over
pub record HasReached (sim : SimView) (limit : ℕ) (after : SimView) : Type 0 where
  pub machine_is : after.machine ≡ sim.machine
  pub at_limit : after.now ≡ limit

-- the run is over where a simulator stands
abbrev pub is_over_now : SimView → Bool
is_over_now sim = is_over_at sim.machine sim.now

-- the messages in flight where a simulator stands
abbrev pub flight_now : SimView → List Message
flight_now sim = flight_at sim.machine sim.now

-- the statistics of the cycles that are over
abbrev pub stats_now : SimView → RunStats
stats_now sim = stats_at sim.machine sim.now

-- the state that the cycles that are over leave
abbrev pub final_now : SimView → FinalView
final_now sim = final_at sim.machine sim.now

-- what the cycles that are over leave, with the tables that are asked for
abbrev pub outcome_now : Tables → SimView → RunOutcome
outcome_now tables sim = outcome_at tables sim.machine sim.now

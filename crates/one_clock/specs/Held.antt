-- What the plain machine keeps is what the definition's run did.
--     HoldsRun s traces n m      the machine keeps the first n cycles of the run
--     HoldsUpTo c n m      the same, of the run of this cycle
--     HoldsBefore c m, HoldsAfter c m      it keeps the cycles before this one; and this one too
--     IsCycleOf c all      all units do and send this in the cycle
use Rattle.std.specs.Prelude.{◌≡◌, ℕ, ◌+◌, List, map}
use Rattle.sim_base.specs.declared.config.Config.{Config}
use Rattle.sim_base.specs.declared.trace.Entry.{Entry}
use Rattle.sim_base.specs.History.{below, commands}
use Rattle.sim_base.specs.Machine.{run}
use Rattle.sim_base.specs.Counts.{in_flight}
use Rattle.statistics.specs.Runs.{stats_of_core, stats_of_channel}
use Rattle.plain_steps.specs.Plain.{core_view, channel_view}
use Rattle.one_clock.specs.Cycles.{core_stops_in, channel_steps_in, sent_in}
use Rattle.one_clock.specs.declared.machine.PlainMachine.{PlainMachine}
use Rattle.one_clock.specs.declared.machine.MachineCycle.{MachineCycle}
use Rattle.one_clock.specs.declared.run_cycle.RunCycle.{RunCycle}

-- the machine keeps what each core and each channel did in the first n cycles, their statistics, their commands, and
-- the messages in flight
pub record HoldsRun (s : Config) (traces : List (List Entry)) (n : ℕ) (m : PlainMachine) : Type 0 where
  pub cores : m.cores.items ≡ map (core_view s traces (run s traces n)) (below s.cores)
  pub channels : m.channels.items ≡ map (channel_view s traces (run s traces n)) (below s.channels)
  pub core_counts : m.core_counts.items ≡ map (stats_of_core s traces (run s traces n)) (below s.cores)
  pub channel_counts : m.channel_counts.items ≡ map (stats_of_channel s traces (run s traces n)) (below s.channels)
  pub commands_are : m.commands.items ≡ commands (run s traces n)
  pub flight : m.flight.items ≡ in_flight s traces (run s traces n)

-- the machine keeps the first n cycles of the run of this one
abbrev pub HoldsUpTo : RunCycle → ℕ → PlainMachine → Type 0
HoldsUpTo c n m = HoldsRun c.config.now c.traces.now n m

-- the machine keeps the cycles before this one
abbrev pub HoldsBefore : RunCycle → PlainMachine → Type 0
HoldsBefore c m = HoldsUpTo c c.number m

-- the machine keeps this cycle too
abbrev pub HoldsAfter : RunCycle → PlainMachine → Type 0
HoldsAfter c m = HoldsUpTo c (c.number + 1) m

-- this is what each core and each channel do in the cycle, and what they send in it
pub record IsCycleOf (c : RunCycle) (all : MachineCycle) : Type 0 where
  pub core_stops : all.core_stops.now ≡ core_stops_in c
  pub channel_steps : all.channel_steps.now ≡ channel_steps_in c
  pub sent : all.sent.now ≡ sent_in c

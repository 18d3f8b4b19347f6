-- How a run ends, and parts of the state in which a unit is left.
--     credits_kept s core past channel, all_credits_kept s core past      a core's credits for one and for each channel
--     refreshes_due s history now      how many refreshes of each rank are due
--     is_core_retired_before, are_cores_retired_before      whether traces are retired before a cycle
--     has_channel_served_before, have_channels_served_before      whether requests are served before it
--     is_all_delivered_before, is_over_before      whether messages have arrived before it; whether all of this holds
--     ends_before c      whether the run ends before the cycle
--     cycles_within c limit      how many cycles the run has: the limit, or fewer where it ends drained sooner
--     outcome_before tables c      what the run leaves, if it does
use Rattle.std.specs.Prelude.{ℕ, Bool, ◌&&◌, List, length, map}
use Rattle.std.specs.List.{list_all}
use Rattle.sim_base.specs.History.{below}
use Rattle.sim_base.specs.Machine.{is_retired, has_served, is_delivered, is_over, cycles_run}
use Rattle.sim_base.specs.Scheduling.{due}
use Rattle.sim_base.specs.Windows.{held}
use Rattle.sim_base.specs.declared.command.IssuedCommand.{IssuedCommand}
use Rattle.sim_base.specs.declared.config.Config.{Config}
use Rattle.sim_base.specs.declared.message.Access.TheVariants as access
use Rattle.statistics.specs.declared.final_state.Credits.{Credits}
use Rattle.plain_steps.specs.Plain.{CoreView}
use Rattle.statistics.specs.Outcomes.{outcome_of}
use Rattle.statistics.specs.Values.{RunOutcome}
use Rattle.statistics.specs.declared.tables.Tables.{Tables}
use Rattle.one_clock.specs.Cycles.{steps_before}
use Rattle.one_clock.specs.declared.run_cycle.RunCycle.{RunCycle}

-- the credits that a core with this past holds for a channel, those counted that arrived before the cycle after it
abbrev pub credits_kept : Config → ℕ → CoreView → ℕ → Credits
credits_kept s core past channel =
    record {
      read = held s core past.inbox past.sent channel access.Read (length past.past_steps);
      write = held s core past.inbox past.sent channel access.Write (length past.past_steps);
    }

-- the credits that it holds for each channel, by number
abbrev pub all_credits_kept : Config → ℕ → CoreView → List Credits
all_credits_kept s core past = map (credits_kept s core past) (below s.channels)

-- how many refreshes of each rank are due in a cycle, after these commands
abbrev pub refreshes_due : Config → List IssuedCommand → ℕ → List ℕ
refreshes_due s history now = map (λ rank. due s rank history now) (below s.ranks)

-- whether a core has retired its trace before the cycle
abbrev pub is_core_retired_before : RunCycle → ℕ → Bool
is_core_retired_before c = is_retired c.traces.now (steps_before c)

-- whether each core has
abbrev pub are_cores_retired_before : RunCycle → Bool
are_cores_retired_before c = list_all (is_core_retired_before c) (below c.config.now.cores)

-- whether a channel has served each request that reached it before the cycle
abbrev pub has_channel_served_before : RunCycle → ℕ → Bool
has_channel_served_before c = has_served c.config.now c.traces.now (steps_before c)

-- whether each channel has
abbrev pub have_channels_served_before : RunCycle → Bool
have_channels_served_before c = list_all (has_channel_served_before c) (below c.config.now.channels)

-- whether each message has arrived before the cycle
abbrev pub is_all_delivered_before : RunCycle → Bool
is_all_delivered_before c = is_delivered c.config.now c.traces.now (steps_before c)

-- whether each trace is retired, each message has arrived, and each request is served before the cycle
abbrev pub is_over_before : RunCycle → Bool
is_over_before c = is_over c.config.now c.traces.now (steps_before c)

-- whether the run ends before the cycle: it is over, and the configuration ends it drained
abbrev pub ends_before : RunCycle → Bool
ends_before c = c.config.now.ends_drained && is_over_before c

-- how many cycles the run has: the limit, or fewer where the configuration ends it drained and it is over sooner
abbrev pub cycles_within : RunCycle → ℕ → ℕ
cycles_within c limit = cycles_run c.config.now c.traces.now limit

-- what the run leaves if it ends before the cycle
abbrev pub outcome_before : Tables → RunCycle → RunOutcome
outcome_before tables c = outcome_of tables c.config.now c.traces.now c.number

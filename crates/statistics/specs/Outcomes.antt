-- What a run leaves.
--     usual_tables      the tables that are asked for where nothing else is said
--     if_asked asked table      a table, where it is asked for
--     outcome_after tables s traces history      what a history leaves, with the tables that are asked for
--     outcome_of tables s traces cycles      the same, for the run of this many cycles
--     outcome_within tables s traces limit      the same, for the run up to a limit
use Rattle.std.specs.Prelude.{ℕ, Bool, true, false, List, Option, Some, None, if◌then◌else◌}
use Rattle.sim_base.specs.declared.config.Config.{Config}
use Rattle.sim_base.specs.History.{commands}
use Rattle.sim_base.specs.Machine.{run, cycles_run}
use Rattle.sim_base.specs.MachineStep.{MachineStep}
use Rattle.sim_base.specs.declared.trace.Entry.{Entry}
use Rattle.request_table.specs.Requests.{requests_of}
use Rattle.statistics.specs.Runs.{stats_of, final_of}
use Rattle.statistics.specs.Values.{RunOutcome}
use Rattle.statistics.specs.declared.tables.Tables.{Tables}

-- the tables of the commands, the statistics and the final state
abbrev pub usual_tables : Tables
usual_tables = record { commands = true; stats = true; last = true; requests = false }

-- a table, where it is asked for
abbrev pub if_asked : {A : Type 0} → Bool → A → Option A
if_asked asked table = if asked then Some table else None

-- the commands of a history and the requests that they serve, each if their table is asked for, its statistics, and
-- the state that it leaves
unfoldable pub outcome_after : Tables → Config → List (List Entry) → List MachineStep → RunOutcome
outcome_after tables s traces history =
    record {
      tables = tables;
      commands = if_asked tables.commands (commands history);
      requests = if_asked tables.requests (requests_of s history);
      stats = stats_of s traces history;
      last = final_of s traces history;
      ranks = s.ranks;
    }

-- what the run of this many cycles leaves
unfoldable pub outcome_of : Tables → Config → List (List Entry) → ℕ → RunOutcome
outcome_of tables s traces cycles = outcome_after tables s traces (run s traces cycles)

-- What the run of a machine over its traces leaves, with the tables that are asked for: it has as many cycles as the
-- limit, or fewer, where the configuration ends it drained and all is done earlier.
abbrev pub outcome_within : Tables → Config → List (List Entry) → ℕ → RunOutcome
outcome_within tables s traces limit = outcome_of tables s traces (cycles_run s traces limit)

-- What a machine does in the first cycles of its run, and what it leaves.
--     run_of machine now      what all units do in each cycle before `now`
--     flight_at machine now      the messages in flight before a cycle
--     links_at machine now      the links, with the messages in flight before a cycle
--     sent_at machine now unit      what a unit has sent before a cycle
--     is_over_at, ends_at machine now      the run is over before a cycle; and the configuration ends it there
--     stats_at, final_at machine now      the statistics of the cycles before `now`, and the state then
--     outcome_at tables machine now      the statistics and the state, with the tables that are asked for
--     commands_at machine now channel      the commands of a channel before a cycle
--     HasChannelAt machine channel now c      a channel stands for its part of the run
--     core_stats_at, channel_stats_at machine now number      the statistics of one unit
--     core_final_at, channel_final_at machine now number      the state of one unit
--     due_at machine now channel rank      the refreshes due of a rank
--     row_at machine now channel bank      the row that is open in a bank
--     each_core_stats, each_channel_stats machine now      the statistics of each unit, by number
--     each_core_final, each_channel_final machine now      the state of each unit, by number
--     each_due machine now channel      the refreshes due of each rank, by number
--     rows_in_banks machine now channel banks      the rows that are open in some banks
--     open_rows_at machine now channel      the open rows of all banks of a channel
use Rattle.std.specs.Prelude.{ℕ, Bool, List, Option, map, filter_map}
use Rattle.sim_base.specs.Counts.{in_flight}
use Rattle.sim_base.specs.Final.{banks}
use Rattle.sim_base.specs.History.{below}
use Rattle.sim_base.specs.Machine.{run, is_over}
use Rattle.sim_base.specs.MachineStep.{MachineStep}
use Rattle.sim_base.specs.Scheduling.{due}
use Rattle.sim_base.specs.declared.command.IssuedCommand.{IssuedCommand}
use Rattle.sim_base.specs.declared.message.Message.{Message}
use Rattle.sim_base.specs.declared.message.Unit.{Unit as MachineUnit}
use Rattle.sim_base.specs.declared.place.BankId.{BankId}
use Rattle.statistics.specs.Runs.{stats_of, stats_of_core, stats_of_channel, final_of, final_of_core, final_of_channel, open_row_of_bank}
use Rattle.statistics.specs.Values.{RunStats, FinalCore, FinalChannel, FinalView, RunOutcome}
use Rattle.statistics.specs.declared.channels.ChannelStats.{ChannelStats}
use Rattle.statistics.specs.declared.cores.CoreStats.{CoreStats}
use Rattle.statistics.specs.declared.final_state.OpenRow.{OpenRow}
use Rattle.laws.specs.Commands.{history_of}
use Rattle.links.specs.InFlight.{InFlight}
use Rattle.statistics.specs.Outcomes.{outcome_of}
use Rattle.statistics.specs.declared.tables.Tables.{Tables}
use Rattle.channel_step.specs.declared.channel.Channel.{Channel}
use Rattle.units.specs.SpanLaws.Channels.{IsChannelAt}
use Rattle.sim_base.specs.Machine.{ends_before}
use Rattle.units.specs.SpanLaws.Units.{sent_of}
use Rattle.units.specs.declared.machine.Machine.{Machine}

-- what all units of a machine do in each cycle of its run before `now`
abbrev pub run_of : Machine → ℕ → List MachineStep
run_of machine now = run machine.config machine.traces.items now

-- the messages in flight before a cycle of the run
abbrev pub flight_at : Machine → ℕ → List Message
flight_at machine now = in_flight machine.config machine.traces.items (run_of machine now)

-- the links with what is in flight before a cycle of the run
abbrev pub links_at : Machine → ℕ → InFlight
links_at machine now = record { channels = machine.config.channels; messages = flight_at machine now }

-- what a unit has sent before a cycle of the run
abbrev pub sent_at : Machine → ℕ → MachineUnit → List Message
sent_at machine now unit = sent_of machine.config machine.traces.items now unit

-- the run is over before a cycle: each trace is retired, each message has arrived, and each request is served
abbrev pub is_over_at : Machine → ℕ → Bool
is_over_at machine now = is_over machine.config machine.traces.items (run_of machine now)

-- the run ends before a cycle: the configuration ends it drained, and it is over
abbrev pub ends_at : Machine → ℕ → Bool
ends_at machine now = ends_before machine.config machine.traces.items now

-- the commands of a channel before a cycle of the run, in their order
abbrev pub commands_at : Machine → ℕ → ℕ → List IssuedCommand
commands_at machine now channel = history_of machine.config machine.traces.items now channel

-- a channel stands for what the one with this number did before a cycle of the run
abbrev pub HasChannelAt : Machine → ℕ → ℕ → Channel → Type 0
HasChannelAt machine channel now c = IsChannelAt machine.config machine.traces.items channel now c

-- the statistics of the cycles before `now`
abbrev pub stats_at : Machine → ℕ → RunStats
stats_at machine now = stats_of machine.config machine.traces.items (run_of machine now)

-- the statistics of a core over the cycles before `now`
abbrev pub core_stats_at : Machine → ℕ → ℕ → CoreStats
core_stats_at machine now core = stats_of_core machine.config machine.traces.items (run_of machine now) core

-- the statistics of a channel over the cycles before `now`
abbrev pub channel_stats_at : Machine → ℕ → ℕ → ChannelStats
channel_stats_at machine now channel = stats_of_channel machine.config machine.traces.items (run_of machine now) channel

-- the state of the machine before a cycle of the run
abbrev pub final_at : Machine → ℕ → FinalView
final_at machine now = final_of machine.config machine.traces.items (run_of machine now)

-- the state of a core before a cycle of the run
abbrev pub core_final_at : Machine → ℕ → ℕ → FinalCore
core_final_at machine now core = final_of_core machine.config machine.traces.items (run_of machine now) core

-- the state of a channel before a cycle of the run
abbrev pub channel_final_at : Machine → ℕ → ℕ → FinalChannel
channel_final_at machine now channel = final_of_channel machine.config machine.traces.items (run_of machine now) channel

-- what the run leaves after the cycles before `now`, with the tables that are asked for
abbrev pub outcome_at : Tables → Machine → ℕ → RunOutcome
outcome_at tables machine now = outcome_of tables machine.config machine.traces.items now

-- the refreshes of a rank that are due at a channel before a cycle of the run
abbrev pub due_at : Machine → ℕ → ℕ → ℕ → ℕ
due_at machine now channel rank = due machine.config rank (commands_at machine now channel) now

-- the row that is open in a bank of a channel before a cycle of the run, with the bank
abbrev pub row_at : Machine → ℕ → ℕ → BankId → Option OpenRow
row_at machine now channel bank = open_row_of_bank (commands_at machine now channel) bank

-- the statistics of each core over the cycles before `now`, by number
abbrev pub each_core_stats : Machine → ℕ → List CoreStats
each_core_stats machine now = map (core_stats_at machine now) (below machine.config.cores)

-- the statistics of each channel over the cycles before `now`, by number
abbrev pub each_channel_stats : Machine → ℕ → List ChannelStats
each_channel_stats machine now = map (channel_stats_at machine now) (below machine.config.channels)

-- the state of each core before a cycle, by number
abbrev pub each_core_final : Machine → ℕ → List FinalCore
each_core_final machine now = map (core_final_at machine now) (below machine.config.cores)

-- the state of each channel before a cycle, by number
abbrev pub each_channel_final : Machine → ℕ → List FinalChannel
each_channel_final machine now = map (channel_final_at machine now) (below machine.config.channels)

-- the refreshes that are due at a channel before a cycle of the run, of each rank by number
abbrev pub each_due : Machine → ℕ → ℕ → List ℕ
each_due machine now channel = map (due_at machine now channel) (below machine.config.ranks)

-- the rows that are open in these banks of a channel before a cycle, with their banks
abbrev pub rows_in_banks : Machine → ℕ → ℕ → List BankId → List OpenRow
rows_in_banks machine now channel banks = filter_map (row_at machine now channel) banks

-- the rows that are open in the banks of a channel before a cycle, by rank, group and bank
abbrev pub open_rows_at : Machine → ℕ → ℕ → List OpenRow
open_rows_at machine now channel = rows_in_banks machine now channel (banks machine.config)

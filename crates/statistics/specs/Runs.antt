-- What a run leaves, for the whole machine.
--     stats_of s traces history      the statistics of each unit
--     core_final, channel_final      the state of one unit
--     final_of s traces history      the state before the cycle after a history
use Rattle.std.specs.Prelude.{ℕ, List, length, map, filter_map, option_map, Option}
use Rattle.sim_base.specs.declared.config.Config.{Config}
use Rattle.sim_base.specs.Counts.{in_flight}
use Rattle.sim_base.specs.Final.{credits_left, due_left, banks, queue_left}
use Rattle.sim_base.specs.History.{below, trace_of, steps_of_core, steps_of_channel, issued_commands, retired_before, issued_before, inbox}
use Rattle.sim_base.specs.MachineStep.{MachineStep}
use Rattle.sim_base.specs.Rules.{open_row}
use Rattle.sim_base.specs.declared.command.Command.{Command}
use Rattle.sim_base.specs.declared.command.IssuedCommand.{IssuedCommand}
use Rattle.sim_base.specs.declared.history.CoreStep.{CoreStep}
use Rattle.sim_base.specs.declared.message.Message.{Message}
use Rattle.sim_base.specs.declared.message.Unit.TheVariants.{Core, Channel}
use Rattle.sim_base.specs.declared.place.BankId.{BankId}
use Rattle.sim_base.specs.declared.trace.Entry.{Entry}
use Rattle.sim_base.specs.declared.message.Access.TheVariants as access
use Rattle.statistics.specs.Channels.{channel_stats}
use Rattle.statistics.specs.Cores.{core_stats}
use Rattle.statistics.specs.Values.{RunStats, FinalCore, FinalChannel, FinalView}
use Rattle.statistics.specs.declared.channels.ChannelStats.{ChannelStats}
use Rattle.statistics.specs.declared.cores.CoreStats.{CoreStats}
use Rattle.statistics.specs.declared.final_state.Credits.{Credits}
use Rattle.statistics.specs.declared.final_state.OpenRow.{OpenRow}

-- the statistics of a core of the machine
unfoldable pub stats_of_core : Config → List (List Entry) → List MachineStep → ℕ → CoreStats
stats_of_core s traces history core =
    core_stats s core (trace_of traces core) (steps_of_core core history) (inbox s traces history (Core core))

-- the statistics of a channel of the machine
unfoldable pub stats_of_channel : Config → List (List Entry) → List MachineStep → ℕ → ChannelStats
stats_of_channel s traces history channel =
    channel_stats s channel (steps_of_channel channel history) (inbox s traces history (Channel channel))

-- how many cycles there were, and the statistics of each core and each channel
unfoldable pub stats_of : Config → List (List Entry) → List MachineStep → RunStats
stats_of s traces history =
    record {
      cycles = length history;
      cores = map (stats_of_core s traces history) (below s.cores);
      channels = map (stats_of_channel s traces history) (below s.channels);
    }

-- the credits that a core holds for a channel after these steps
unfoldable pub credits_of : Config → ℕ → List Entry → List CoreStep → List Message → ℕ → Credits
credits_of s core trace steps inbox channel =
    record {
      read = credits_left s core trace steps inbox access.Read channel;
      write = credits_left s core trace steps inbox access.Write channel;
    }

-- the state of a core after these steps
unfoldable pub core_final : Config → ℕ → List Entry → List CoreStep → List Message → FinalCore
core_final s core trace steps inbox =
    record {
      issued = issued_before steps;
      retired = retired_before steps;
      credits = map (credits_of s core trace steps inbox) (below s.channels);
    }

-- an open row with its bank
abbrev pub opened : BankId → ℕ → OpenRow
opened bank row = record { bank = bank; row = row }

-- the row that is open in a bank, with the bank
abbrev pub open_row_of_bank : List IssuedCommand → BankId → Option OpenRow
open_row_of_bank history bank = option_map (opened bank) (open_row bank history)

-- the rows that are open after these steps, by rank, group and bank
unfoldable pub open_rows_left : Config → ℕ → List (Option Command) → List OpenRow
open_rows_left s channel steps = filter_map (open_row_of_bank (issued_commands channel steps)) (banks s)

-- the state of a channel after these steps
unfoldable pub channel_final : Config → ℕ → List (Option Command) → List Message → FinalChannel
channel_final s channel steps inbox =
    record {
      due = due_left s channel steps;
      open_rows = open_rows_left s channel steps;
      queue = queue_left channel steps inbox;
    }

-- the state in which a core of the machine is left
unfoldable pub final_of_core : Config → List (List Entry) → List MachineStep → ℕ → FinalCore
final_of_core s traces history core =
    core_final s core (trace_of traces core) (steps_of_core core history) (inbox s traces history (Core core))

-- the state in which a channel of the machine is left
unfoldable pub final_of_channel : Config → List (List Entry) → List MachineStep → ℕ → FinalChannel
final_of_channel s traces history channel =
    channel_final s channel (steps_of_channel channel history) (inbox s traces history (Channel channel))

-- the state before the cycle after a history
unfoldable pub final_of : Config → List (List Entry) → List MachineStep → FinalView
final_of s traces history =
    record {
      cores = map (final_of_core s traces history) (below s.cores);
      channels = map (final_of_channel s traces history) (below s.channels);
      in_flight = in_flight s traces history;
    }

-- What holds of the commands of a run.
--     channel_steps_of s traces n channel      what a channel does in the first n cycles, one command or none per cycle
--     history_of s traces n channel      its commands, each with its cycle
--     CommandsAreLegal s traces n      each command is legal in its cycle, over those of its channel in earlier cycles
--     HistoriesAreLegal s traces n      each command is legal over those that stand before it in its channel's history
--     CyclesAscend s traces n      a channel's commands stand by cycle, at most one in each
use Rattle.std.specs.Prelude.{◌≡◌, ℕ, ◌<◌, IsTrue, List, length, take, slice_index_or, Option, Some, None}
use Rattle.std.specs.List.{AllPairs}
use Rattle.sim_base.specs.declared.config.Config.{Config}
use Rattle.sim_base.specs.History.{steps_of_channel, issued_commands}
use Rattle.sim_base.specs.Rules.{is_legal}
use Rattle.sim_base.specs.Machine.{run}
use Rattle.sim_base.specs.declared.command.Command.{Command}
use Rattle.sim_base.specs.declared.command.IssuedCommand.{IssuedCommand}
use Rattle.sim_base.specs.declared.trace.Entry.{Entry}

-- what a channel does in the first n cycles of a run, one command or none per cycle
abbrev pub channel_steps_of : Config → List (List Entry) → ℕ → ℕ → List (Option Command)
channel_steps_of s traces n channel = steps_of_channel channel (run s traces n)

-- the commands of a channel in the first n cycles of a run, each with its cycle
abbrev pub history_of : Config → List (List Entry) → ℕ → ℕ → List IssuedCommand
history_of s traces n channel = issued_commands channel (channel_steps_of s traces n channel)

-- each command is legal in its cycle, over the commands of its channel in the cycles before it
abbrev pub CommandsAreLegal : Config → List (List Entry) → ℕ → Type 0
CommandsAreLegal s traces n =
    (channel cycle : ℕ) (command : Command) → channel < s.channels → cycle < n →
    slice_index_or (channel_steps_of s traces n channel) cycle None ≡ Some command →
    IsTrue (is_legal s (issued_commands channel (take cycle (channel_steps_of s traces n channel))) cycle command)

-- each command of a list is legal over those that stand before it
abbrev pub IsLegalHistory : Config → List IssuedCommand → Type 0
IsLegalHistory s history =
    (i : ℕ) (d : IssuedCommand) → i < length history →
    IsTrue (is_legal s (take i history) (slice_index_or history i d).cycle (slice_index_or history i d).command)

-- each command is legal over those that stand before it in its channel's history
abbrev pub HistoriesAreLegal : Config → List (List Entry) → ℕ → Type 0
HistoriesAreLegal s traces n = (channel : ℕ) → channel < s.channels → IsLegalHistory s (history_of s traces n channel)

-- a channel's commands stand by cycle, at most one in each
abbrev pub CyclesAscend : Config → List (List Entry) → ℕ → Type 0
CyclesAscend s traces n = (channel : ℕ) → AllPairs (λ a b. a.cycle < b.cycle) (history_of s traces n channel)

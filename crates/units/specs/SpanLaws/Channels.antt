-- The channels of a run, each run alone, span by span.
--     RequestsFitSpans s traces from until      the requests that come to a channel in a span are fit for it
--     ChannelsRunAlone s traces from until      from these requests the channel alone does what it does in the run
--     ChannelRunsOver c inbox from until d ..      a channel goes over a span, for each past that it may have
--     IsChannelAt s traces channel now c      a channel stands for what it did in the first cycles of a run
--     DoesAsInRun s traces channel from until c ..      what a channel leaves after a span is its part of the run
--     ChannelsStart, ChannelsMayRun, ChannelsGoOn      a channel stands for its part at first, and from span to span
--     ChannelsEndAlike s traces now      the statistics and the state of a channel are those of the run
use Rattle.std.specs.Prelude.{◌≡◌, ℕ, ◌-◌, ◌<◌, ◌≤◌, List, [], ◌++◌, length, Option}
use Rattle.sim_base.specs.declared.config.Config.{Config}
use Rattle.sim_base.specs.History.{messages_of_channel}
use Rattle.sim_base.specs.Machine.{run, channel_run}
use Rattle.sim_base.specs.declared.command.IssuedCommand.{IssuedCommand}
use Rattle.sim_base.specs.declared.message.Message.{Message}
use Rattle.sim_base.specs.declared.message.Unit.TheVariants as unit
use Rattle.sim_base.specs.declared.trace.Entry.{Entry}
use Rattle.statistics.specs.Channels.{channel_stats}
use Rattle.statistics.specs.Runs.{stats_of_channel, channel_final, final_of_channel}
use Rattle.laws.specs.Commands.{channel_steps_of, history_of}
use Rattle.channel_step.specs.Channels.{StandsFor, ForPasts}
use Rattle.channel_step.specs.Fit.{IsFit, IsFitAfter}
use Rattle.channel_step.specs.Runs.{with_more, IsDoneAfter, CanRun}
use Rattle.channel_step.specs.declared.channel.Channel.{Channel}
use Rattle.units.specs.SpanLaws.Mail.{mail_before, mail_in}

-- the requests of a run that come to a channel in a span are fit for it, after what the channel did and what arrived
-- before
abbrev pub RequestsFitSpans : Config → List (List Entry) → ℕ → ℕ → Type 0
RequestsFitSpans s traces from until =
    (channel : ℕ) → channel < s.channels → from ≤ until
    → IsFit s channel (channel_steps_of s traces from channel) (mail_before s traces until (unit.Channel channel) from)
    (mail_in s traces until (unit.Channel channel) from until) from until

-- from the requests that come to a channel in a span the channel alone does in the span what it does in the run
abbrev pub ChannelsRunAlone : Config → List (List Entry) → ℕ → ℕ → Type 0
ChannelsRunAlone s traces from until =
    (channel : ℕ) → channel < s.channels → from ≤ until
    → channel_run s channel (channel_steps_of s traces from channel)
    (mail_before s traces until (unit.Channel channel) from ++ mail_in s traces until (unit.Channel channel) from until)
    (until - from)
    ≡ channel_steps_of s traces until channel

-- a channel stands for what the one with this number did in the cycles of a run before `now`, and for what arrived at
-- it in them
abbrev pub IsChannelAt : Config → List (List Entry) → ℕ → ℕ → Channel → Type 0
IsChannelAt s traces channel now c =
    StandsFor c s channel (channel_steps_of s traces now channel) (mail_before s traces now (unit.Channel channel) now)

-- what a channel becomes that is run over a span, and what its commands and messages make of two lists: for each past
-- of `from` cycles that the channel may have, if these messages are fit for the span after it
abbrev pub ChannelRunsOver : Channel → List Message → ℕ → ℕ → Channel → Option (List IssuedCommand)
    → Option (List IssuedCommand)
    → List Message → List Message → Type 0
ChannelRunsOver c inbox from until d commands commands_then messages messages_then =
    ForPasts c
    (λ past. length past.steps ≡ from → IsFitAfter past inbox from until
    → IsDoneAfter d past inbox from until commands commands_then messages messages_then)

-- A channel did what the one with this number did in a span of a run: it stands at the end of the span, and the
-- commands, where they are kept, and the messages of the run beyond those before the span were put behind what two
-- lists held.
pub record DoesAsInRun (s : Config) (traces : List (List Entry)) (channel from until : ℕ) (c : Channel)
    (commands commands_then : Option (List IssuedCommand)) (messages messages_then : List Message) : Type 0 where
  pub issued : List IssuedCommand
  pub sent : List Message
  pub stands : IsChannelAt s traces channel until c
  pub commands_are : history_of s traces until channel ≡ history_of s traces from channel ++ issued
  pub messages_are : messages_of_channel s (run s traces until) channel
      ≡ messages_of_channel s (run s traces from) channel ++ sent
  pub commands_behind : commands_then ≡ with_more commands issued
  pub messages_behind : messages_then ≡ messages ++ sent

-- before the first cycle a channel that has done nothing stands for its part of the run
abbrev pub ChannelsStart : Config → List (List Entry) → Type 0
ChannelsStart s traces = (channel : ℕ) (c : Channel) → StandsFor c s channel [] [] → IsChannelAt s traces channel 0 c

-- a channel that stands for its part of a run may be run over a span with what arrives at it there
abbrev pub ChannelsMayRun : Config → List (List Entry) → ℕ → ℕ → Type 0
ChannelsMayRun s traces from until =
    (channel : ℕ) (c : Channel) → channel < s.channels → from ≤ until → IsChannelAt s traces channel from c
    → CanRun c (mail_in s traces until (unit.Channel channel) from until) from until

-- what a channel leaves when it is run over a span is its part of the longer run
abbrev pub ChannelsGoOn : Config → List (List Entry) → ℕ → ℕ → Type 0
ChannelsGoOn s traces from until =
    (channel : ℕ) (c d : Channel) (commands commands_then : Option (List IssuedCommand))
    (messages messages_then : List Message)
    → channel < s.channels → from ≤ until → IsChannelAt s traces channel from c
    → ChannelRunsOver c (mail_in s traces until (unit.Channel channel) from until) from until d
    commands commands_then messages messages_then
    → DoesAsInRun s traces channel from until d commands commands_then messages messages_then

-- the statistics and the state of what a channel did, and of what arrived at it, are those of the run
abbrev pub ChannelsEndAlike : Config → List (List Entry) → ℕ → Type 0
ChannelsEndAlike s traces now =
    (channel : ℕ)
    → (channel_stats s channel (channel_steps_of s traces now channel)
    (mail_before s traces now (unit.Channel channel) now)
    ≡ stats_of_channel s traces (run s traces now) channel)
    × (channel_final s channel (channel_steps_of s traces now channel)
    (mail_before s traces now (unit.Channel channel) now)
    ≡ final_of_channel s traces (run s traces now) channel)

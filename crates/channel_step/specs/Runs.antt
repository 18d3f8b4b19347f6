-- What a channel does over a span of cycles.
--     first_arrival_or inbox until      when the first of these messages arrives
--     with_more kept more      what a list holds with more behind it, if one is kept
--     with_command kept channel cycle command      what a list holds with the command of a cycle behind it
--     IsListed c command old new      a command was put behind what a list held
--     steps_on p inbox n      the steps of a past, and of n cycles more
--     HasIssued c p command ..      what a channel leaves when it has issued a command
--     IssuesIfNext result c p command ..      a command is issued where it is what the channel does
--     HasRun c p inbox from now until arrived commands messages      what the cycles of a span up to `now` leave
--     HasAdvanced c p inbox now then until arrived ..      what one step of the loop leaves
--     IsDone c s channel steps mail inbox from until ..      what all cycles of a span leave
--     IsDoneAfter c p inbox from until ..      what all cycles of a span after a past leave
--     CanRun c inbox from until      a channel stands for a past after which messages are fit for a span
--     ForSpan c inbox from until fact      a fact of each past that a channel may have, and that messages are fit after
--     CanStep c inbox now      messages are fit for a span that begins with this cycle
--     StandsAt c from      a channel stands for some past at a cycle
use Rattle.std.specs.Prelude.{◌≡◌, ℕ, ◌-◌, ◌<◌, ◌≤◌, List, [], ◌∷◌, ◌++◌, length, take, drop, Option, Some, None, Result, OnOk}
use Rattle.sim_base.specs.declared.config.Config.{Config}
use Rattle.sim_base.specs.History.{issued_commands, messages_at, channel_messages, issued_now}
use Rattle.sim_base.specs.Machine.{channel_run}
use Rattle.sim_base.specs.declared.command.Command.{Command}
use Rattle.sim_base.specs.declared.command.IssuedCommand.{IssuedCommand}
use Rattle.sim_base.specs.declared.message.Message.{Message}
use Rattle.channel_step.specs.Past.{Steps, Past, with_step, commands_after, choice_after}
use Rattle.channel_step.specs.Fit.{IsFit, IsFitAfter}
use Rattle.channel_step.specs.Channels.{StandsFor, HasPast, ForPasts}
use Rattle.channel_step.specs.declared.channel.Channel.{Channel}

-- what a list, if one is kept, holds with more behind it
abbrev pub with_more : {A : Type 0} → Option (List A) → List A → Option (List A)
with_more None more = None
with_more (Some rows) more = Some (rows ++ more)

-- what a list, if one is kept, holds with the command of a cycle behind it
abbrev pub with_command : Option (List IssuedCommand) → ℕ → ℕ → Command → Option (List IssuedCommand)
with_command kept channel cycle command = with_more kept (issued_now channel cycle (Some command))

-- a command of a channel in its cycle was put behind what a list held, if one is kept
abbrev pub IsListed : Channel → Command → Option (List IssuedCommand) → Option (List IssuedCommand) → Type 0
IsListed c command old new = new ≡ with_command old c.number c.cycle command

-- when the first of these messages arrives, or `until` where there is none
abbrev pub first_arrival_or : List Message → ℕ → ℕ
first_arrival_or [] until = until
first_arrival_or (m ∷ ms) until = m.arrival

-- the steps of a past, and of n cycles more, in which these messages arrive
abbrev pub steps_on : Past → List Message → ℕ → Steps
steps_on p inbox n = channel_run p.config p.channel p.steps (p.mail ++ inbox) n

-- A channel has issued a command in the cycle after a past: the command, where commands are kept, and what is sent
-- for it were put behind what two lists held.
pub record HasIssued (c : Channel) (p : Past) (command : Command) (commands commands_then : Option (List IssuedCommand))
    (messages messages_then : List Message) : Type 0 where
  pub stands : HasPast c (with_step p (Some command))
  pub commands_are : commands_then ≡ with_command commands p.channel (length p.steps) command
  pub messages_are : messages_then ≡ messages ++ messages_at p.config p.channel (length p.steps) (Some command)

-- where a command is what a channel does in the cycle after a past, it has issued it, unless that was refused
abbrev pub IssuesIfNext : {T E : Type 0} → Result T E → Channel → Past → Command → Option (List IssuedCommand)
    → Option (List IssuedCommand) → List Message → List Message → Type 0
IssuesIfNext result c p command commands commands_then messages messages_then =
    Some command ≡ choice_after p → OnOk result (HasIssued c p command commands commands_then messages messages_then)

-- After the cycles from `from` up to `now` a channel stands for the steps of its run and for the messages that arrived
-- in them; the other messages are fit for the rest of the span; and these commands and messages are those that were
-- added.
pub record HasRun (c : Channel) (p : Past) (inbox : List Message) (from now until arrived : ℕ)
    (commands : List IssuedCommand) (messages : List Message) : Type 0 where
  pub stands : StandsFor c p.config p.channel (steps_on p inbox (now - from)) (p.mail ++ take arrived inbox)
  pub fit : IsFit p.config p.channel (steps_on p inbox (now - from)) (p.mail ++ take arrived inbox) (drop arrived inbox)
      now until
  pub some : arrived ≤ length inbox
  pub commands_are : issued_commands p.channel (steps_on p inbox (now - from)) ≡ commands_after p ++ commands
  pub messages_are : channel_messages p.config p.channel (steps_on p inbox (now - from))
      ≡ channel_messages p.config p.channel p.steps ++ messages

-- After the cycles from `now` up to `then` a channel stands for the steps of its run and for the messages that arrived
-- in them; the others are fit for the rest of the span; and what is new was added to these commands, where they are
-- kept, and messages.
pub record HasAdvanced (c : Channel) (p : Past) (inbox : List Message) (now then until arrived : ℕ)
    (commands commands_then : Option (List IssuedCommand)) (messages messages_then : List Message) : Type 0 where
  pub issued : List IssuedCommand
  pub sent : List Message
  pub has_run : HasRun c p inbox now then until arrived issued sent
  pub commands_are : commands_then ≡ with_more commands issued
  pub messages_are : messages_then ≡ messages ++ sent

-- After a span a channel stands for the steps of its run over it and for all messages that were sent to it. The
-- commands, where they are kept, and the messages of the longer steps beyond those of the earlier ones were put behind
-- what two lists held.
pub record IsDone (c : Channel) (s : Config) (channel : ℕ) (steps : Steps) (mail inbox : List Message) (from until : ℕ)
    (commands commands_then : Option (List IssuedCommand)) (messages messages_then : List Message) : Type 0 where
  pub issued : List IssuedCommand
  pub sent : List Message
  pub stands : StandsFor c s channel (channel_run s channel steps (mail ++ inbox) (until - from)) (mail ++ inbox)
  pub commands_are : issued_commands channel (channel_run s channel steps (mail ++ inbox) (until - from))
      ≡ issued_commands channel steps ++ issued
  pub messages_are : channel_messages s channel (channel_run s channel steps (mail ++ inbox) (until - from))
      ≡ channel_messages s channel steps ++ sent
  pub commands_behind : commands_then ≡ with_more commands issued
  pub messages_behind : messages_then ≡ messages ++ sent

-- a channel ran these cycles behind a past, with this inbox, and put commands and messages behind those that were there
abbrev pub IsDoneAfter : Channel → Past → List Message → ℕ → ℕ → Option (List IssuedCommand)
    → Option (List IssuedCommand) → List Message → List Message → Type 0
IsDoneAfter c p inbox from until commands commands_then messages messages_then =
    IsDone c p.config p.channel p.steps p.mail inbox from until commands commands_then messages messages_then

-- a channel stands for some past, after which these messages are fit for a span
pub record CanRun (c : Channel) (inbox : List Message) (from until : ℕ) : Type 0 where
  pub s : Config
  pub channel : ℕ
  pub steps : Steps
  pub mail : List Message
  pub stands : StandsFor c s channel steps mail
  pub at : length steps ≡ from
  pub fit : IsFit s channel steps mail inbox from until

-- a fact holds of each past, up to the first cycle of a span, that a channel may have and after which these messages
-- are fit for the span
abbrev pub ForSpan : Channel → List Message → ℕ → ℕ → (Past → Type 0) → Type 0
ForSpan c inbox from until fact =
    ForPasts c (λ past. length past.steps ≡ from → IsFitAfter past inbox from until → fact past)

-- a channel stands for some past, after which these messages are fit for some span that begins with this cycle
pub record CanStep (c : Channel) (inbox : List Message) (now : ℕ) : Type 0 where
  pub until : ℕ
  pub before_end : now < until
  pub can_run : CanRun c inbox now until

-- a channel stands for some past at a cycle
pub record StandsAt (c : Channel) (from : ℕ) : Type 0 where
  pub s : Config
  pub channel : ℕ
  pub steps : Steps
  pub mail : List Message
  pub stands : StandsFor c s channel steps mail
  pub at : length steps ≡ from

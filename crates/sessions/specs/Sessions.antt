-- What a session answers.
--     Past      a channel of a machine, what was sent to it, and which of its commands and replies were taken
--     commands_of p now, replies_of p now      all that the definition's channel gives before a cycle
--     IsSession session p      a session has this past
--     ForPasts session fact      a fact of each past that it may have
--     IsOpen session      it has some past
--     core_of s reply      the core that a reply goes to
--     next_command_of p now, next_reply_of p now      the first command, or reply, that was not taken
--     statistics_of p now, waiting_of p now      the statistics of the cycles before one; how many requests wait in it
--     with_sent p m, with_command p o, with_reply p o      a past with one message more that was sent or taken
--     with_request p request      a past with one request more that was sent
--     number_refusal s channel      why no session is opened, if none is
--     refusal session waits request, end_refusal now until      why a request or a run is refused, if it is
--     IsAnswer refusal result      the answer of a call that is refused so, if at all
--     HasTaken old new request      a request was taken
use Rattle.std.specs.Prelude.{◌≡◌, ℕ, ◌+◌, ◌/◌, ◌^◌, ◌==◌, nat_lt, nat_le, not, if◌then◌else◌, List, [], ◌∷◌, ◌++◌, length, slice_get, Option, Some, None, Result, Err, IfErr}
use Rattle.std.specs.List.{list_all}
use Rattle.sim_base.specs.History.{issued_commands, channel_messages, is_before}
use Rattle.sim_base.specs.Places.{place_of}
use Rattle.sim_base.specs.declared.config.Config.{Config}
use Rattle.sim_base.specs.declared.command.IssuedCommand.{IssuedCommand}
use Rattle.sim_base.specs.declared.message.Message.{Message}
use Rattle.statistics.specs.Channels.{channel_stats}
use Rattle.statistics.specs.declared.channels.ChannelStats.{ChannelStats}
use Rattle.sim_base.specs.Scheduling.{queue_room}
use Rattle.sessions.specs.Sent.{message_of, is_unasked, firsts_with}
use Rattle.sessions.specs.Held.{commands_left, HasCommands}
use Rattle.sessions.specs.Keeps.{steps_of, waiting, Keeps}
use Rattle.sessions.specs.declared.channel_session.fault.SessionFault.{SessionFault}
use Rattle.sessions.specs.declared.channel_session.fault.SessionFault.TheVariants.{NoSuchChannel, NoSuchCore, OtherChannel, InThePast, OutOfOrder, EntryPassed, NoCredit, Memory, EndPassed, EndTooLate}
use Rattle.sessions.specs.declared.channel_session.requests.SentRequest.{SentRequest}
use Rattle.sessions.specs.declared.channel_session.session.Session.{Session}

-- a channel of a machine with a configuration, the messages that were sent to it, in their order, and the commands and
-- replies that were taken from it
pub record Past : Type 0 where
  pub config : Config
  pub channel : ℕ
  pub sent : List Message
  pub commands : List IssuedCommand
  pub replies : List Message

-- the commands that the definition's channel issues before a cycle, for the messages that were sent
abbrev pub commands_of : Past → ℕ → List IssuedCommand
commands_of p now = issued_commands p.channel (steps_of p.config p.channel p.sent now)

-- the replies and credits that it sends for them
abbrev pub replies_of : Past → ℕ → List Message
replies_of p now = channel_messages p.config p.channel (steps_of p.config p.channel p.sent now)

-- the first command before a cycle that was not taken, if there is one
abbrev pub next_command_of : Past → ℕ → Option IssuedCommand
next_command_of p now = slice_get (commands_of p now) (length p.commands)

-- the first reply or credit
abbrev pub next_reply_of : Past → ℕ → Option Message
next_reply_of p now = slice_get (replies_of p now) (length p.replies)

-- the statistics of the cycles before one
abbrev pub statistics_of : Past → ℕ → ChannelStats
statistics_of p now = channel_stats p.config p.channel (steps_of p.config p.channel p.sent now) p.sent

-- how many requests wait in a cycle
abbrev pub waiting_of : Past → ℕ → ℕ
waiting_of p now = waiting p.config p.channel p.sent now

-- A session has a past: what was taken from it, and then what it still holds, are just the commands and replies of the
-- definition's channel before the cycle where it stands.
pub record IsSession (session : Session) (p : Past) : Type 0 where
  pub config_is : session.config ≡ p.config
  pub number_is : session.number ≡ p.channel
  pub commands_are : commands_of p session.cycle ≡ p.commands ++ commands_left session.commands
  pub replies_are : replies_of p session.cycle ≡ p.replies ++ session.replies.all.items
  pub has_commands : HasCommands session.commands
  pub keeps : Keeps session.channel p.config p.channel session.cycle session.firsts.items p.sent session.coming.items

-- this is so of each past that a session may have
abbrev pub ForPasts : Session → (Past → Type 0) → Type 0
ForPasts session fact = (past : Past) → IsSession session past → fact past

-- it has some past
pub record IsOpen (session : Session) : Type 0 where
  pub past : Past
  pub is_session : IsSession session past

-- the core that a reply or a credit goes to, by the number of its link: three for each pair of a core and a channel
abbrev pub core_of : Config → Message → ℕ
core_of s reply = reply.link / 3 / s.channels

-- nothing was sent to a channel, and nothing was taken from it
abbrev pub no_past : Config → ℕ → Past
no_past s channel = record { config = s; channel = channel; sent = []; commands = []; replies = [] }

-- one message more was sent
abbrev pub with_sent : Past → Message → Past
with_sent p m = record p { sent = p.sent ++ m ∷ [] }

-- one request more was sent
abbrev pub with_request : Past → SentRequest → Past
with_request p request = with_sent p (message_of p.config p.channel request)

-- this command was taken, if it is one
abbrev pub with_command : Past → Option IssuedCommand → Past
with_command p (Some command) = record p { commands = p.commands ++ command ∷ [] }
with_command p None = p

-- this reply was taken, if it is one
abbrev pub with_reply : Past → Option Message → Past
with_reply p (Some reply) = record p { replies = p.replies ++ reply ∷ [] }
with_reply p None = p

-- why no session of a channel is opened, if none is: the machine has no such channel
abbrev pub number_refusal : Config → ℕ → Option SessionFault
number_refusal s channel = if nat_lt channel s.channels then None else Some NoSuchChannel

-- Why a request is refused where so many requests wait, if it is: its core is not there, its address is of another
-- channel, it arrives in a cycle that is over, or not after all that are on their way, its entry cannot be asked for
-- any more, or there is no credit for it.
abbrev pub refusal : Session → ℕ → SentRequest → Option SessionFault
refusal session waits r =
    if nat_le session.config.cores r.core then Some NoSuchCore
    else if not ((place_of session.config r.address).channel == session.number) then Some OtherChannel
    else if nat_lt r.arrival session.cycle then Some InThePast
    else
    if not (list_all (λ n. is_before n (message_of session.config session.number r)) session.coming.items)
    then Some OutOfOrder
    else if not (is_unasked session.firsts.items r.core r.entry) then Some EntryPassed
    else if nat_le (queue_room session.config) (waits + length session.coming.items) then Some NoCredit
    else None

-- why a run up to a cycle is refused, if it is: that cycle is over, or after 2^62
abbrev pub end_refusal : ℕ → ℕ → Option SessionFault
end_refusal now until =
    if nat_lt until now then Some EndPassed
    else if nat_lt (2 ^ 62) until then Some EndTooLate
    else None

-- the answer of a call that is refused so; one that is not has only memory as an error
abbrev pub IsAnswer : {A : Type 0} → Option SessionFault → Result A SessionFault → Type 0
IsAnswer (Some fault) result = result ≡ Err fault
IsAnswer None result = IfErr result (λ e. e ≡ Memory)

-- a request that was taken is on its way, behind the others, and its entry was asked for; nothing else has changed
pub record HasTaken (old new : Session) (r : SentRequest) : Type 0 where
  pub channel_is : new.channel ≡ old.channel
  pub config_is : new.config ≡ old.config
  pub number_is : new.number ≡ old.number
  pub cycle_is : new.cycle ≡ old.cycle
  pub commands_are : new.commands ≡ old.commands
  pub replies_are : new.replies ≡ old.replies
  pub firsts_are : new.firsts.items ≡ firsts_with old.firsts.items r.core r.entry
  pub coming_are : new.coming.items ≡ old.coming.items ++ message_of old.config old.number r ∷ []

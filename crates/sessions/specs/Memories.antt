-- What a memory as a session answers.
--     IsChannelOf s now past number session      a session is the channel with a number of a memory, and has this past
--     Pasts      the past of each channel, by number
--     IsMemory memory pasts      the channels of a memory have these pasts, by number
--     ForPasts memory fact      a fact of the pasts that its channels may have
--     IsOpenMemory memory      they have some
--     no_pasts s      nothing was sent to a memory, and nothing was taken from it
--     number_of s request      the channel that a request goes to: that of its address
--     session_at memory number other      the session of a channel
--     memory_refusal memory pasts other request      why a request is refused, if it is
--     with_request_of s pasts request      pasts with one request more that was sent
--     with_command_of pasts taken, with_reply_of pasts taken      pasts with one command or reply more that was taken
--     command_cycles pasts now k, reply_arrivals pasts now k      the cycle of the first command or reply not taken
--     IsFirstCommand memory pasts first, IsFirstReply memory pasts first      the earliest of these, with its channel
--     command_from pasts now number, reply_from pasts now number      the next command and reply of a channel
--     IsNextCommand channels pasts now next, IsNextReply channels pasts now next      the first of all, if there is one
--     IsNextActOf channels pasts now next      the next cycle in which a channel acts, if there is one
--     TakesCommand old new taken, TakesReply old new taken      what was given was taken
--     AreNewChannels s sessions      the channels of a machine before their first cycle
--     EachMayRun until sessions, MayRun until session      a session, or each of several, may run up to a cycle
--     EachHasRun until old new, HasRunTo until old new      it has
--     stats_of channels pasts now number      the statistics of a channel, if there is that channel
use Rattle.std.specs.Prelude.{◌≡◌, ◌⊎◌, ℕ, ◌<◌, ◌≤◌, ◌^◌, ◌==◌, nat_lt, true, if◌then◌else◌, List, length, slice_index_or, is_some, option_map, Option, Some, None, Vec}
use Rattle.std.specs.declared.alloc.Global.{Global}
use Rattle.sim_base.specs.Places.{place_of}
use Rattle.sim_base.specs.declared.config.Config.{Config}
use Rattle.sim_base.specs.declared.command.IssuedCommand.{IssuedCommand}
use Rattle.sim_base.specs.declared.message.Message.{Message}
use Rattle.statistics.specs.declared.channels.ChannelStats.{ChannelStats}
use Rattle.sessions.specs.Ahead.{command_then, arrives_then}
use Rattle.sessions.specs.Sessions.{Past, IsSession, IsOpen, no_past, next_command_of, next_reply_of, statistics_of, waiting_of, with_request, with_command, with_reply, refusal}
use Rattle.sessions.specs.declared.channel_session.fault.SessionFault.{SessionFault}
use Rattle.sessions.specs.declared.channel_session.requests.SentRequest.{SentRequest}
use Rattle.sessions.specs.declared.channel_session.session.Session.{Session}
use Rattle.sessions.specs.Earliest.{IsEarliest, IsEarliestAt}
use Rattle.sessions.specs.declared.memory_session.memory.MemorySession.{MemorySession}

-- a session is the channel with a number of a machine with a configuration, stands at a cycle, and has this past
pub record IsChannelOf (s : Config) (now : ℕ) (p : Past) (number : ℕ) (session : Session) : Type 0 where
  pub is_session : IsSession session p
  pub cycle_is : session.cycle ≡ now
  pub config_is : p.config ≡ s
  pub number_is : p.channel ≡ number

-- the past of each channel of a memory, by number
pub record Pasts : Type 0 where
  pub past : ℕ → Past

-- The channels of a memory have these pasts, by number, and all stand at its cycle.
pub record IsMemory (memory : MemorySession) (pasts : Pasts) : Type 0 where
  pub count_is : length memory.sessions.items ≡ memory.config.channels
  pub each : (k : ℕ) (other : Session) → k < length memory.sessions.items
      → IsChannelOf memory.config memory.cycle (pasts.past k) k (slice_index_or memory.sessions.items k other)

-- this is so of the pasts that the channels of a memory may have
abbrev pub ForPasts : MemorySession → (Pasts → Type 0) → Type 0
ForPasts memory fact = (pasts : Pasts) → IsMemory memory pasts → fact pasts

-- they have some
pub record IsOpenMemory (memory : MemorySession) : Type 0 where
  pub pasts : Pasts
  pub is_memory : IsMemory memory pasts

-- nothing was sent to a memory, and nothing was taken from it
abbrev pub no_pasts : Config → Pasts
no_pasts s = record { past = λ number. no_past s number }

-- sessions are the channels of a machine before their first cycle, by number
abbrev pub AreNewChannels : Config → Vec Session Global → Type 0
AreNewChannels s sessions =
    (k : ℕ) (other : Session) → k < length sessions.items
    → IsChannelOf s 0 ((no_pasts s).past k) k (slice_index_or sessions.items k other)

-- the channel that a request goes to: that of its address
abbrev pub number_of : Config → SentRequest → ℕ
number_of s request = (place_of s request.address).channel

-- the session of a channel, and another one where there is none
abbrev pub session_at : MemorySession → ℕ → Session → Session
session_at memory number other = slice_index_or memory.sessions.items number other

-- why a request is refused, if it is: the channel of its address refuses it
abbrev pub memory_refusal : MemorySession → Pasts → Session → SentRequest → Option SessionFault
memory_refusal memory pasts other request =
    let number = number_of memory.config request in
    refusal (session_at memory number other) (waiting_of (pasts.past number) memory.cycle) request

-- the past of one channel is another one
abbrev pub with_past : Pasts → ℕ → Past → Pasts
with_past pasts number p = record { past = λ k. if k == number then p else pasts.past k }

-- a request was sent to the channel of its address, and nothing to the others
abbrev pub with_request_of : Config → Pasts → SentRequest → Pasts
with_request_of s pasts request =
    let number = number_of s request in
    with_past pasts number (with_request (pasts.past number) request)

-- this command of a channel was taken, if it is one
abbrev pub with_command_of : Pasts → Option (ℕ × IssuedCommand) → Pasts
with_command_of pasts None = pasts
with_command_of pasts (Some taken) = with_past pasts taken.0 (with_command (pasts.past taken.0) (Some taken.1))

-- this reply of a channel was taken, if it is one
abbrev pub with_reply_of : Pasts → Option (ℕ × Message) → Pasts
with_reply_of pasts None = pasts
with_reply_of pasts (Some taken) = with_past pasts taken.0 (with_reply (pasts.past taken.0) (Some taken.1))

-- the cycle of the first command of each channel that was not taken
abbrev pub command_cycles : Pasts → ℕ → ℕ → Option ℕ
command_cycles pasts now k = option_map (λ (c : IssuedCommand). c.cycle) (next_command_of (pasts.past k) now)

-- the cycle in which the first reply of each channel that was not taken arrives
abbrev pub reply_arrivals : Pasts → ℕ → ℕ → Option ℕ
reply_arrivals pasts now k = option_map (λ (m : Message). m.arrival) (next_reply_of (pasts.past k) now)

-- the channel with the first command that was not taken, and its cycle, if there is one
abbrev pub IsFirstCommand : MemorySession → Pasts → Option (ℕ × ℕ) → Type 0
IsFirstCommand memory pasts first = IsEarliest (command_cycles pasts memory.cycle) (length memory.sessions.items) first

-- the channel with the first reply that was not taken, and its arrival, if there is one
abbrev pub IsFirstReply : MemorySession → Pasts → Option (ℕ × ℕ) → Type 0
IsFirstReply memory pasts first = IsEarliest (reply_arrivals pasts memory.cycle) (length memory.sessions.items) first

-- the next command of a channel that was not taken, with the channel's number
abbrev pub command_from : Pasts → ℕ → ℕ → Option (ℕ × IssuedCommand)
command_from pasts now number =
    option_map (λ (command : IssuedCommand). (number, command)) (next_command_of (pasts.past number) now)

-- the next reply of a channel that was not taken, with the channel's number
abbrev pub reply_from : Pasts → ℕ → ℕ → Option (ℕ × Message)
reply_from pasts now number = option_map (λ (reply : Message). (number, reply)) (next_reply_of (pasts.past number) now)

-- what a call gave was taken from a memory, if it gave a command
abbrev pub TakesCommand : MemorySession → MemorySession → Option (ℕ × IssuedCommand) → Type 0
TakesCommand old new taken = ForPasts old (λ pasts. IsMemory new (with_command_of pasts taken))

-- what a call gave was taken from a memory, if it gave a reply
abbrev pub TakesReply : MemorySession → MemorySession → Option (ℕ × Message) → Type 0
TakesReply old new taken = ForPasts old (λ pasts. IsMemory new (with_reply_of pasts taken))

-- A command of a channel is the first that was not taken, of all channels: by cycle and then by channel.
pub record IsNextCommandAt (channels : ℕ) (pasts : Pasts) (now number : ℕ) (command : IssuedCommand) : Type 0 where
  pub command_is : next_command_of (pasts.past number) now ≡ Some command
  pub is_first : IsEarliestAt (command_cycles pasts now) channels number command.cycle

-- The first command that was not taken, of all channels, by cycle and then by channel, or none where each was taken.
abbrev pub IsNextCommand : ℕ → Pasts → ℕ → Option (ℕ × IssuedCommand) → Type 0
IsNextCommand channels pasts now (Some next) = IsNextCommandAt channels pasts now next.0 next.1
IsNextCommand channels pasts now None = (k : ℕ) → k < channels → next_command_of (pasts.past k) now ≡ None

-- A reply of a channel is the first that was not taken, of all channels: by arrival, among the first of each channel,
-- and then by channel.
pub record IsNextReplyAt (channels : ℕ) (pasts : Pasts) (now number : ℕ) (reply : Message) : Type 0 where
  pub reply_is : next_reply_of (pasts.past number) now ≡ Some reply
  pub is_first : IsEarliestAt (reply_arrivals pasts now) channels number reply.arrival

-- The first reply that was not taken, of all channels, by arrival and then by channel, or none where each was taken.
abbrev pub IsNextReply : ℕ → Pasts → ℕ → Option (ℕ × Message) → Type 0
IsNextReply channels pasts now (Some next) = IsNextReplyAt channels pasts now next.0 next.1
IsNextReply channels pasts now None = (k : ℕ) → k < channels → next_reply_of (pasts.past k) now ≡ None

-- a channel acts in a cycle
pub record ActsIn (channels : ℕ) (pasts : Pasts) (now cycle : ℕ) : Type 0 where
  pub number : ℕ
  pub is_below : number < channels
  pub acts : (is_some (command_then (pasts.past number) now cycle) ≡ true)
      ⊎ (arrives_then (pasts.past number) cycle ≡ true)

-- A channel acts in a cycle, and none from now on and before that, if nothing more is sent: none issues a command
-- before that cycle, and in it, one does or a request that was sent arrives.
pub record IsNextActAt (channels : ℕ) (pasts : Pasts) (now cycle : ℕ) : Type 0 where
  pub from_now : now ≤ cycle
  pub idle : (k t : ℕ) → k < channels → now ≤ t → t < cycle → command_then (pasts.past k) now t ≡ None
  pub acts : ActsIn channels pasts now cycle

-- the cycle in which a channel acts next, if nothing more is sent, or none where no channel issues anything any more
abbrev pub IsNextActOf : ℕ → Pasts → ℕ → Option ℕ → Type 0
IsNextActOf channels pasts now (Some cycle) = IsNextActAt channels pasts now cycle
IsNextActOf channels pasts now None = (k t : ℕ) → k < channels → now ≤ t → command_then (pasts.past k) now t ≡ None

-- the statistics of the cycles of a channel that are over, if there is that channel
abbrev pub stats_of : ℕ → Pasts → ℕ → ℕ → Option ChannelStats
stats_of channels pasts now number =
    if nat_lt number channels then Some (statistics_of (pasts.past number) now) else None

-- a session may run up to a cycle
pub record MayRun (until : ℕ) (session : Session) : Type 0 where
  pub is_open : IsOpen session
  pub span : session.cycle ≤ until
  pub in_time : until ≤ 2 ^ 62

-- each of several sessions may run up to a cycle
abbrev pub EachMayRun : ℕ → List Session → Type 0
EachMayRun until sessions =
    (k : ℕ) (other : Session) → k < length sessions → MayRun until (slice_index_or sessions k other)

-- a session has run up to a cycle
pub record HasRunTo (until : ℕ) (old new : Session) : Type 0 where
  pub past : (p : Past) → IsSession old p → IsSession new p
  pub now : new.cycle ≡ until

-- each of several sessions has
abbrev pub EachHasRun : ℕ → List Session → List Session → Type 0
EachHasRun until old new =
    (k : ℕ) (other : Session) → k < length old
    → HasRunTo until (slice_index_or old k other) (slice_index_or new k other)

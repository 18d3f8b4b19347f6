-- What a channel that is run alone went through, and what it keeps of it.
--     Steps      what a channel did, cycle by cycle
--     Past      a channel of a machine, its steps, and the messages that arrived in them
--     past_of s channel steps mail      the past with these parts
--     with_step p o, with_mail p more      a past with one step more, or with more messages
--     commands_after p, stats_after p      the commands of a past, and its statistics
--     waiting_after p      the requests that wait after a past
--     choice_after p      the command that a channel issues in the cycle after a past, if it issues one
--     carried_requests mail      the requests that messages carry
--     CarriesRequest s channel m      a message carries a request for this channel, as a core of the machine sends it
--     Differ requests      no two of these requests are of one entry
--     has_act history r      an ACT was issued in the name of a request
--     IsPast p      the messages of a past are those that may have arrived
use Rattle.std.specs.Prelude.{◌≡◌, ℕ, ◌<◌, Bool, false, List, [], ◌∷◌, ◌++◌, length, filter_map, Option, Some, None}
use Rattle.std.specs.List.{list_any, AllByRecursion as Each}
use Rattle.sim_base.specs.declared.config.Config.{Config}
use Rattle.sim_base.specs.Config.{request_link}
use Rattle.sim_base.specs.Counts.{is_act_for}
use Rattle.sim_base.specs.History.{issued_commands}
use Rattle.sim_base.specs.Places.{place_of}
use Rattle.sim_base.specs.Scheduling.{request_in, is_source, source_of, queued_requests, choice}
use Rattle.sim_base.specs.declared.command.Command.{Command}
use Rattle.sim_base.specs.declared.command.IssuedCommand.{IssuedCommand}
use Rattle.sim_base.specs.declared.message.Message.{Message}
use Rattle.sim_base.specs.declared.message.Request.{Request}
use Rattle.statistics.specs.Channels.{channel_stats}
use Rattle.statistics.specs.declared.channels.ChannelStats.{ChannelStats}

-- what a channel did, cycle by cycle: its command, or none
abbrev pub Steps : Type 0
Steps = List (Option Command)

-- What a channel went through: the configuration of its machine, its number, its steps, one for each cycle so far, and
-- the messages that arrived in those cycles.
pub record Past : Type 0 where
  pub config : Config
  pub channel : ℕ
  pub steps : Steps
  pub mail : List Message

-- the past of a channel with this configuration, number, steps and messages
abbrev pub past_of : Config → ℕ → Steps → List Message → Past
past_of s channel steps mail = record { config = s; channel = channel; steps = steps; mail = mail }

-- a past with one step more
abbrev pub with_step : Past → Option Command → Past
with_step p o = record p { steps = p.steps ++ o ∷ [] }

-- a past with these messages as well
abbrev pub with_mail : Past → List Message → Past
with_mail p more = record p { mail = p.mail ++ more }

-- the commands of the steps of a past
abbrev pub commands_after : Past → List IssuedCommand
commands_after p = issued_commands p.channel p.steps

-- the requests that wait after the steps of a past
abbrev pub waiting_after : Past → List Request
waiting_after p = queued_requests (commands_after p) p.mail (length p.steps)

-- the statistics of the steps of a past
abbrev pub stats_after : Past → ChannelStats
stats_after p = channel_stats p.config p.channel p.steps p.mail

-- the command that a channel issues in the cycle after a past, if it issues one
abbrev pub choice_after : Past → Option Command
choice_after p = choice p.config p.channel p.steps p.mail

-- the requests that messages carry, in their order
abbrev pub carried_requests : List Message → List Request
carried_requests mail = filter_map (λ m. request_in m.payload) mail

-- A request for a channel, as the message that carries it tells: it comes from a core of the machine on that core's
-- link, says when it arrives and on which link, and lies where its address does, which is in this channel.
pub record IsRequestOf (s : Config) (channel : ℕ) (m : Message) (r : Request) : Type 0 where
  pub core : r.core < s.cores
  pub link : m.link ≡ request_link s r.core channel
  pub same_link : r.link ≡ m.link
  pub arrival : r.arrival ≡ m.arrival
  pub place : r.place ≡ place_of s r.address
  pub channel_is : r.place.channel ≡ channel

-- a message has a request, and it is one for this channel, as a core of the machine sends it
abbrev pub IsRequestIn : Config → ℕ → Message → Option Request → Type 0
IsRequestIn s channel m (Some r) = IsRequestOf s channel m r
IsRequestIn s channel m None = ⊥

-- a message carries a request for a channel, as a core of the machine sends it
abbrev pub CarriesRequest : Config → ℕ → Message → Type 0
CarriesRequest s channel m = IsRequestIn s channel m (request_in m.payload)

-- two requests are of different entries
abbrev pub IsOther : Request → Request → Type 0
IsOther r q = is_source q (source_of r) ≡ false

-- no two of these requests are of one entry
abbrev pub Differ : List Request → Type 0
Differ [] = Unit {0}
Differ (r ∷ rs) = Each (IsOther r) rs × Differ rs

-- an ACT was issued in the name of a request, so that its data is no row hit
abbrev pub has_act : List IssuedCommand → Request → Bool
has_act history r = list_any (λ i. is_act_for (source_of r) i.command) history

-- Each of the messages of a past carries a request and has arrived, and no two requests are of one entry.
pub record IsPast (p : Past) : Type 0 where
  pub requests : Each (CarriesRequest p.config p.channel) p.mail
  pub arrived : Each (λ (m : Message). m.arrival < length p.steps) p.mail
  pub differ : Differ (carried_requests p.mail)

-- A channel that issues a command in a cycle.
--     IsChosen c need      a channel is in a cycle, and this needs its command
--     ServesAfter p cycle, ServesIn c cycle      a request's command is issued in a cycle after others without
--     HasCounted c p      a channel is in a cycle that its statistics count
--     ForCounted c fact      a fact of each past after which a channel may be in a cycle that it has counted
--     ActsFor c need      a channel is in a cycle that it has counted, and this needs its command
--     IsDoing c place command      a channel issues a command in a cycle, and at a place a request waits
--     request_of c place      the request at a place of a channel's log
--     column_command_at c place      the column command of the request at a place
--     opening_command c place, closing_command c place      the ACT that the request at a place needs, and the PRE
--     command_for c p need      the command that a need asks for after a past
--     rank_command p rank      what a rank needs that is to be refreshed
--     as_issued channel now command      a command of a cycle, as it was issued
--     commands_with p command      the commands of a past, and one in the cycle after it
--     IsReadied c p command hit      a channel is as after a command, which it has still to count
--     HasReadied old new command hit      a channel is readied for a command, wherever it issues that
--     IsReadiedInSomePast c command hit      a channel is readied, after some past
use Rattle.std.specs.Prelude.{◌≡◌, ℕ, ◌+◌, ◌<◌, ◌≤◌, Bool, true, List, length, Option, Some, None}
use Rattle.std.specs.List.{AllByRecursion as Each}
use Rattle.sim_base.specs.Scheduling.{drains, queued_requests, source_of, column_command, needed_at, needed, refresh_command, queue_room}
use Rattle.sim_base.specs.Places.{bank_in}
use Rattle.sim_base.specs.declared.command.Command.{Command}
use Rattle.sim_base.specs.declared.command.Command.TheVariants.{Pre}
use Rattle.sim_base.specs.declared.command.IssuedCommand.{IssuedCommand}
use Rattle.sim_base.specs.declared.message.Message.{Message}
use Rattle.sim_base.specs.declared.message.Request.{Request}
use Rattle.bank_ready.specs.Stands.{followed_by, StandsFor as BanksStandFor}
use Rattle.bank_ready.specs.Refreshes.{StandsFor as RefreshesStandFor}
use Rattle.queue.specs.Log.{waiting_requests, waits_at}
use Rattle.statistics.specs.Channels.{issues_hit}
use Rattle.channel_step.specs.FrFcfs.Choices.{command_of, IsFor}
use Rattle.channel_step.specs.declared.fr_fcfs.choice.Need.{Need}
use Rattle.channel_step.specs.Past.{Past, with_step, commands_after, stats_after, choice_after, carried_requests, CarriesRequest, Differ}
use Rattle.channel_step.specs.Queued.{activated_in, request_at}
use Rattle.channel_step.specs.Stands.{activated_of}
use Rattle.channel_step.specs.Channels.{CandidatesStand, KeepsServed, IsMadeFor, IsInCycle, idle_after}
use Rattle.channel_step.specs.declared.channel.Channel.{Channel}

-- a channel is in a cycle, after some past, and this was chosen for it: it needs the command that the channel issues
pub record IsChosen (c : Channel) (need : Need) : Type 0 where
  pub past : Past
  pub command : Command
  pub is_in : IsInCycle c past
  pub place : IsFor past.config.ranks c.queue.log need
  pub needed : command_of past.config (commands_after past) c.queue.log need ≡ Some command
  pub is_chosen : Some command ≡ choice_after past

-- After a past and further cycles in which nothing is issued and nothing arrives, a channel issues what a request needs
-- in a cycle.
pub record ServesAfter (p : Past) (cycle : ℕ) : Type 0 where
  pub request : Request
  pub from_now : length p.steps ≤ cycle
  pub is_chosen : Some (needed (commands_after p) request) ≡ choice_after (idle_after p (length p.steps) cycle)

-- a channel is in a cycle, after some past, and issues what a request needs in a cycle, if nothing arrives up to there
pub record ServesIn (c : Channel) (cycle : ℕ) : Type 0 where
  pub past : Past
  pub is_in : IsInCycle c past
  pub serves : ServesAfter past cycle

-- A channel stands for its past in the cycle after its steps, as one that is in that cycle, but that its statistics
-- count the cycle already, as one in which nothing is issued.
pub record HasCounted (c : Channel) (p : Past) : Type 0 where
  pub is_in : IsInCycle (record c { stats = stats_after p }) p
  pub stats_are : c.stats ≡ stats_after (with_step p None)
  pub longest : c.stats.queued_max ≤ queue_room p.config

-- a fact holds of each past after which a channel may be in a cycle that it has counted
abbrev pub ForCounted : Channel → (Past → Type 0) → Type 0
ForCounted c fact = (past : Past) → HasCounted c past → fact past

-- a channel is in a cycle that it has counted, after some past, and this was chosen for it: it needs the command that the
-- channel issues
pub record ActsFor (c : Channel) (need : Need) : Type 0 where
  pub past : Past
  pub command : Command
  pub is_in : HasCounted c past
  pub place : IsFor past.config.ranks c.queue.log need
  pub needed : command_of past.config (commands_after past) c.queue.log need ≡ Some command
  pub is_chosen : Some command ≡ choice_after past

-- a channel is in a cycle that it has counted, after some past, in which it issues a command, and at a place of its log
-- a request waits
pub record IsDoing (c : Channel) (place : ℕ) (command : Command) : Type 0 where
  pub past : Past
  pub is_in : HasCounted c past
  pub within : place < length c.queue.log
  pub waits : waits_at c.queue.log place ≡ true
  pub is_chosen : Some command ≡ choice_after past

-- the request at a place of the log of a channel
abbrev pub request_of : Channel → ℕ → Request
request_of c place = request_at c.queue.log place

-- the column command of the request at a place of the log of a channel
abbrev pub column_command_at : Channel → ℕ → Command
column_command_at c place = column_command (request_of c place)

-- the ACT that the request at a place of the log needs where no row of its bank is open
abbrev pub opening_command : Channel → ℕ → Command
opening_command c place = needed_at None (request_of c place)

-- the PRE that the request at a place of the log needs where another row of its bank is open
abbrev pub closing_command : Channel → ℕ → Command
closing_command c place = Pre (bank_in (request_of c place).place) (source_of (request_of c place))

-- the command that a need asks for after a past
abbrev pub command_for : Channel → Past → Need → Option Command
command_for c p need = command_of p.config (commands_after p) c.queue.log need

-- what a rank needs that is to be refreshed, after a past
abbrev pub rank_command : Past → ℕ → Command
rank_command p rank = refresh_command p.config (commands_after p) rank

-- a command of a cycle, as it was issued
abbrev pub as_issued : ℕ → ℕ → Command → IssuedCommand
as_issued channel now command = record { cycle = now; channel = channel; command = command }

-- the commands of a past, and one in the cycle after it
abbrev pub commands_with : Past → Command → List IssuedCommand
commands_with p command = followed_by (commands_after p) p.channel (length p.steps) command

-- What a channel is in the cycle after a past once its queue, its candidates, its banks and the requests that it keeps
-- are as after a command that it chose, which is a row hit or not. Its refreshes have still to take note of it, and its
-- statistics, which count the cycle, to count it.
pub record IsReadied (c : Channel) (p : Past) (command : Command) (hit : Bool) : Type 0 where
  pub made_for : IsMadeFor c p.config p.channel
  pub cycle_is : c.cycle ≡ length p.steps
  pub requests : Each (CarriesRequest p.config p.channel) p.mail
  pub arrived : Each (λ (m : Message). m.arrival < length p.steps + 1) p.mail
  pub differ : Differ (carried_requests p.mail)
  pub chosen : Some command ≡ choice_after p
  pub hit_is : issues_hit (commands_after p) (Some command) ≡ hit
  pub queue_is : waiting_requests c.queue.log ≡ queued_requests (commands_with p command) p.mail (length p.steps + 1)
  pub drained_is : c.queue.drain_decided ≡ drains p.config p.channel p.steps p.mail (length p.steps)
  pub activated_are : activated_in c.queue.log ≡ activated_of (commands_with p command) (waiting_requests c.queue.log)
  pub stats_are : c.stats ≡ stats_after (with_step p None)
  pub candidates_stand : CandidatesStand c.bank_candidates c.queue.log (commands_with p command)
  pub banks_stand : BanksStandFor c.banks p.config (commands_with p command)
  pub refreshes_stand : RefreshesStandFor c.refresh p.config (commands_after p)
  pub keeps_served : KeepsServed c.served (commands_with p command) p.mail

-- a channel is readied for a command in a cycle, after some past
pub record IsReadiedInSomePast (c : Channel) (command : Command) (hit : Bool) : Type 0 where
  pub past : Past
  pub is_readied : IsReadied c past command hit

-- In each cycle in which a channel issues this command it has been readied for it.
abbrev pub HasReadied : Channel → Channel → Command → Bool → Type 0
HasReadied old new command hit =
    ForCounted old (λ past. Some command ≡ choice_after past → IsReadied new past command hit)

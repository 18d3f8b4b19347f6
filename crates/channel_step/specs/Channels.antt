-- What a `Channel` stands for.
--     CandidatesStand bank_candidates log history      the candidates are those of a log, after these commands
--     IsMadeFor c s channel      the channel with a number, of a machine with a configuration
--     AreServed rows history mail      these are the requests that these commands served, given their arrivals
--     KeepsServed kept history mail      the requests that are kept, if they are, are those that these commands served
--     StandsFor c s channel steps mail      all that a channel keeps is what these steps and messages make of it
--     HasPast c p      a channel stands for a past
--     ForPasts c fact      a fact of each past that a channel may have
--     StandForTheSame old new      a channel has each past that it had
--     PartsStand c s history      the parts of a channel stand for a configuration and its commands so far
--     HasMore c s history earlier before      requests have joined the queue of a channel
--     idle_after p from cycle      a past, and cycles in which nothing is issued and nothing arrives
--     issues_in p from cycle      whether a channel issues a command in a cycle, if nothing arrives
--     NoneIsIssued s history queue from end      nothing is issued from one cycle up to another
--     StaysNext c before old new      what was known of the next command is right after arrivals too
--     IsNextCommand s history queue from next_command      what is known of the next command is right
--     IsForeseen s history queue from next_command      what is known of the next command is right, as two facts
--     Foresees c s history      what a channel knows of its next command is right
--     IsFound c s history now next      the next command from a cycle on, if there is one
--     HasRank c rank, HasBank c bank      a channel of a machine with this rank, or with this bank
--     IsInCycle c p      a channel has a past in the next cycle, when what arrives in it has joined the queue
--     ForCycles c fact      a fact of each past after which a channel may be in the next cycle
--     StaysInCycle old new      a channel is in each cycle that it was in
--     IsNextBefore p log end next      the next command before a cycle, and when it is issued, if there is one
--     CountsDrains c      cycles of draining are counted where the channel ever drains
--     counted c command hit      the statistics of a channel with one command more
--     after_cycle c command hit      a channel once its command is counted, and its cycle over
--     idle_cycle c now      the statistics of a cycle in which a channel issues nothing
--     skipped c until      the statistics of a channel after cycles in which it issues nothing
--     counted_through c cycle      a channel in a cycle that is counted, as are those before it
use Rattle.std.specs.Prelude.{◌≡◌, ℕ, ◌+◌, ◌-◌, ◌*◌, ◌<◌, ◌≤◌, Bool, true, false, List, take, length, is_some, nat_lt, Option, Some, None, IfSome, All, Vec}
use Rattle.std.specs.List.{AllByRecursion as Each}
use Rattle.std.specs.declared.alloc.Global.{Global}
use Rattle.sim_base.specs.declared.config.Config.{Config}
use Rattle.sim_base.specs.History.{issued_commands}
use Rattle.sim_base.specs.Rules.{kind_of}
use Rattle.sim_base.specs.Scheduling.{source_of, queue_room}
use Rattle.sim_base.specs.declared.command.Command.{Command}
use Rattle.sim_base.specs.declared.command.IssuedCommand.{IssuedCommand}
use Rattle.sim_base.specs.declared.command.Source.{Source}
use Rattle.sim_base.specs.declared.message.Message.{Message}
use Rattle.sim_base.specs.declared.place.BankId.{BankId}
use Rattle.bank_ready.specs.Stands.{StandsFor as BanksStandFor}
use Rattle.bank_ready.specs.Refreshes.{lowest_owed, StandsFor as RefreshesStandFor}
use Rattle.queue.specs.declared.bank_candidates.all_banks.BankCandidates.{BankCandidates}
use Rattle.queue.specs.Candidates.{rows_after}
use Rattle.queue.specs.Stands.{bank_count, StandsFor as CandidatesStandFor}
use Rattle.queue.specs.declared.request_log.Arrived.{Arrived}
use Rattle.queue.specs.Log.{waiting_requests, all_requests}
use Rattle.queue.specs.View.{QueueView, is_draining}
use Rattle.statistics.specs.Channels.{channel_joined, channel_times, one_command}
use Rattle.statistics.specs.declared.channels.ChannelStats.{ChannelStats}
use Rattle.channel_step.specs.Counted.{cycle_with_hit}
use Rattle.channel_step.specs.FrFcfs.Choices.{StandFor, choice_in, command_of, IsFor, HasPlace}
use Rattle.channel_step.specs.FrFcfs.Offers.{going}
use Rattle.channel_step.specs.FrFcfs.Requests.{IsInBanks, candidates_of}
use Rattle.channel_step.specs.declared.fr_fcfs.arrivals.EarlierQueue.{EarlierQueue}
use Rattle.channel_step.specs.FrFcfs.Cycles.{IsNext}
use Rattle.channel_step.specs.declared.fr_fcfs.choice.Need.{Need}
use Rattle.request_table.specs.Served.{served_requests}
use Rattle.request_table.specs.declared.served_requests.ServedRequest.{ServedRequest}
use Rattle.channel_step.specs.Past.{Steps, Past, past_of, commands_after, choice_after, carried_requests}
use Rattle.channel_step.specs.Fit.{idle_until, IsIdle}
use Rattle.channel_step.specs.Latencies.{answer_latencies}
use Rattle.channel_step.specs.Queued.{activated_in}
use Rattle.channel_step.specs.Stands.{Recalls, HasArrivals}
use Rattle.channel_step.specs.declared.next_command.NextCommand.{NextCommand}
use Rattle.channel_step.specs.declared.next_command.NextCommand.TheVariants.{Unknown, Known}
use Rattle.channel_step.specs.declared.channel.Channel.{Channel}

-- the candidates are those of the requests of a log, where the open rows are those that these commands left open
abbrev pub CandidatesStand : BankCandidates → List Arrived → List IssuedCommand → Type 0
CandidatesStand bank_candidates log history = CandidatesStandFor bank_candidates log (rows_after history)

-- The channel with a number, of a machine with a configuration, knows the latencies of its links to the cores, has room
-- in its queue for a request for each credit and candidates for each bank, and never had more requests in it; each
-- request that has arrived asks for one of the banks.
pub record IsMadeFor (c : Channel) (s : Config) (channel : ℕ) : Type 0 where
  pub config_is : c.config ≡ s
  pub number_is : c.number ≡ channel
  pub high_is : c.queue.high ≡ s.write_high
  pub low_is : c.queue.low ≡ s.write_low
  pub latencies_are : c.latencies.items ≡ answer_latencies s channel
  pub room_is : c.queue.room ≡ queue_room s
  pub banks_are : bank_count c.bank_candidates ≡ 16 * s.ranks
  pub in_banks : All (IsInBanks s.ranks) (all_requests c.queue.log)
  pub within : length (waiting_requests c.queue.log) ≤ queue_room s
  pub longest : c.stats.queued_max ≤ queue_room s

-- with this queue nothing is issued in the cycles from `from` up to `end`
abbrev pub NoneIsIssued : Config → List IssuedCommand → QueueView → ℕ → ℕ → Type 0
NoneIsIssued s history queue from end = (t : ℕ) → from ≤ t → t < end → choice_in s history queue t ≡ None

-- what was chosen needs a command that is issued in `cycle`, and none is issued in the cycles from `from` up to that
pub record IsNextCommandAt (s : Config) (history : List IssuedCommand) (queue : QueueView) (from cycle : ℕ)
    (need : Need) : Type 0 where
  pub then_is : choice_in s history queue cycle ≡ command_of s history queue.log need
  pub there_is : is_some (command_of s history queue.log need) ≡ true
  pub none_before : NoneIsIssued s history queue from cycle
  pub place : IsFor s.ranks queue.log need

-- what is known of the next command from `from` on: nothing; or that none is ever issued; or its cycle, and what needs
-- it
abbrev pub IsNextCommand : Config → List IssuedCommand → QueueView → ℕ → NextCommand → Type 0
IsNextCommand s history queue from Unknown = Unit {0}
IsNextCommand s history queue from (Known None) = (t : ℕ) → from ≤ t → choice_in s history queue t ≡ None
IsNextCommand s history queue from (Known (Some next)) = IsNextCommandAt s history queue from next.0 next.1

-- the next command, if it is known, is for a request that waits or for a rank that exists
abbrev pub NextCommandIsFor : ℕ → List Arrived → NextCommand → Type 0
NextCommandIsFor ranks log Unknown = Unit {0}
NextCommandIsFor ranks log (Known next) = HasPlace ranks log next

-- What is known of the next command is so from a cycle on:
--     never      there is none
--     at      it is issued in its cycle, and none before that
pub record IsForeseen (s : Config) (history : List IssuedCommand) (queue : QueueView) (from : ℕ)
    (next_command : NextCommand) : Type 0 where
  pub never : next_command ≡ Known None → (t : ℕ) → from ≤ t → choice_in s history queue t ≡ None
  pub at : (cycle : ℕ) (need : Need) → next_command ≡ Known (Some (cycle, need))
      → IsNextCommandAt s history queue from cycle need

-- what a channel knows of its next command is so after these commands, as long as nothing arrives
abbrev pub Foresees : Channel → Config → List IssuedCommand → Type 0
Foresees c s history = IsForeseen s history c.queue c.cycle c.next_command

-- the next command from `now` on, and what needs it, if there is one
abbrev pub IsFound : Channel → Config → List IssuedCommand → ℕ → Option (ℕ × Need) → Type 0
IsFound c s history now next =
    IsNext (choice_in s history c.queue) (command_of s history c.queue.log) now next × HasPlace s.ranks c.queue.log next

-- the parts of a channel stand for a configuration and its commands so far
abbrev pub PartsStand : Channel → Config → List IssuedCommand → Type 0
PartsStand c s history = StandFor c.bank_candidates c.banks c.refresh c.queue c.config.groups s history

-- Requests have come into the queue of a channel since the queue was `earlier`: its log had as many places as `before`
-- says, and requests of its accesses went. The banks and the candidates stand for the commands so far, and the
-- candidates for the queue as it is now.
pub record HasMore (c : Channel) (s : Config) (history : List IssuedCommand) (earlier : QueueView)
    (before : EarlierQueue) : Type 0 where
  pub banks_stand : BanksStandFor c.banks s history
  pub candidates_stand : CandidatesStand c.bank_candidates c.queue.log history
  pub high_is : s.write_high ≡ c.queue.high
  pub earlier_is : earlier.log ≡ take before.places c.queue.log
  pub went : candidates_of s earlier ≡ going before.accesses earlier.log

-- what was known of the next command of a channel, before requests arrived at a queue that was `before`, is right with
-- them too where `new` takes its place
abbrev pub StaysNext : Channel → EarlierQueue → NextCommand → NextCommand → Type 0
StaysNext c before old new =
    (s : Config) (history : List IssuedCommand) (earlier : QueueView) → HasMore c s history earlier before
    → IsNextCommand s history earlier c.cycle old → IsNextCommand s history c.queue c.cycle new

-- these are the requests that these commands served, given the arrival of each request that these messages carry
abbrev pub AreServed : List ServedRequest → List IssuedCommand → List Message → Type 0
AreServed rows history mail =
    (arrivals : Source → ℕ) → Each (λ r. r.arrival ≡ arrivals (source_of r)) (carried_requests mail)
    → rows ≡ served_requests arrivals history

-- the requests that are kept, if they are, are those that these commands served, given the arrival of each request that
-- these messages carry
abbrev pub KeepsServed : Option (Vec ServedRequest Global) → List IssuedCommand → List Message → Type 0
KeepsServed kept history mail = IfSome kept (λ rows. AreServed rows.items history mail)

-- All that a channel keeps between two cycles is what its steps so far, one a cycle, and the messages that arrived in
-- them make of it.
pub record StandsFor (c : Channel) (s : Config) (channel : ℕ) (steps : Steps) (mail : List Message) : Type 0 where
  pub made_for : IsMadeFor c s channel
  pub cycle_is : c.cycle ≡ length steps
  pub recalls : Recalls (waiting_requests c.queue.log) c.queue.drain_decided (activated_in c.queue.log) c.stats
      (past_of s channel steps mail)
  pub candidates_stand : CandidatesStand c.bank_candidates c.queue.log (issued_commands channel steps)
  pub banks_stand : BanksStandFor c.banks s (issued_commands channel steps)
  pub refreshes_stand : RefreshesStandFor c.refresh s (issued_commands channel steps)
  pub foresees : Foresees c s (issued_commands channel steps)
  pub keeps_served : KeepsServed c.served (issued_commands channel steps) mail

-- a channel stands for a past: its configuration, its number, its steps and its messages
abbrev pub HasPast : Channel → Past → Type 0
HasPast c p = StandsFor c p.config p.channel p.steps p.mail

-- a fact holds of each past that a channel may have; the past is given by its parts, which the laws of runs name one by
-- one
abbrev pub ForPasts : Channel → (Past → Type 0) → Type 0
ForPasts c fact =
    (s : Config) (channel : ℕ) (steps : Steps) (mail : List Message) → StandsFor c s channel steps mail
    → fact (past_of s channel steps mail)

-- a channel still has each past that it had
abbrev pub StandForTheSame : Channel → Channel → Type 0
StandForTheSame old new = ForPasts old (HasPast new)

-- a past, and after it the cycles from `from` up to `cycle`, in which nothing is issued and nothing arrives
abbrev pub idle_after : Past → ℕ → ℕ → Past
idle_after p from cycle = record p { steps = idle_until p.steps from cycle }

-- whether a channel issues a command in a cycle, if from `from` up to that cycle it issues none and nothing arrives
abbrev pub issues_in : Past → ℕ → ℕ → Bool
issues_in p from = λ cycle. is_some (choice_after (idle_after p from cycle))

-- a channel stands for a past of a machine with this rank
pub record HasRank (c : Channel) (rank : ℕ) : Type 0 where
  pub s : Config
  pub channel : ℕ
  pub steps : Steps
  pub mail : List Message
  pub stands : StandsFor c s channel steps mail
  pub rank_in : rank < s.ranks

-- a channel stands for a past of a machine with this bank
pub record HasBank (c : Channel) (bank : BankId) : Type 0 where
  pub s : Config
  pub channel : ℕ
  pub steps : Steps
  pub mail : List Message
  pub stands : StandsFor c s channel steps mail
  pub rank_in : bank.rank < s.ranks
  pub group_in : bank.group < s.groups
  pub bank_in : bank.bank < 4

-- A channel stands for its past in the cycle after its steps, when what arrives in it has joined the queue.
pub record IsInCycle (c : Channel) (p : Past) : Type 0 where
  pub made_for : IsMadeFor c p.config p.channel
  pub cycle_is : c.cycle ≡ length p.steps
  pub joined : HasArrivals (waiting_requests c.queue.log) c.queue.drain_decided (activated_in c.queue.log) c.stats p
  pub candidates_stand : CandidatesStand c.bank_candidates c.queue.log (commands_after p)
  pub banks_stand : BanksStandFor c.banks p.config (commands_after p)
  pub refreshes_stand : RefreshesStandFor c.refresh p.config (commands_after p)
  pub foresees : Foresees c p.config (commands_after p)
  pub keeps_served : KeepsServed c.served (commands_after p) p.mail

-- a fact holds of each past after which a channel may be in the next cycle
abbrev pub ForCycles : Channel → (Past → Type 0) → Type 0
ForCycles c fact = (past : Past) → IsInCycle c past → fact past

-- a channel is still in each cycle that it was in
abbrev pub StaysInCycle : Channel → Channel → Type 0
StaysInCycle old new = ForCycles old (IsInCycle new)

-- a channel is in a cycle, after some past
pub record IsInSomeCycle (c : Channel) (now : ℕ) : Type 0 where
  pub past : Past
  pub is_in : IsInCycle c past
  pub at : length past.steps ≡ now

-- The next command that is issued after a past, if nothing arrives any more: it is what the channel does in `cycle`,
-- which is before `end`, and none is issued in the cycles before it.
pub record IsNextIn (p : Past) (end cycle : ℕ) (command : Command) : Type 0 where
  pub from_now : length p.steps ≤ cycle
  pub before_end : cycle < end
  pub idle : IsIdle p.config p.channel p.steps p.mail (cycle - length p.steps)
  pub command_is : Some command ≡ choice_after (idle_after p (length p.steps) cycle)

-- the next command that is issued after a past, if nothing arrives any more, and what needs it: a request of a log, or
-- a rank
pub record IsNeededIn (p : Past) (log : List Arrived) (end cycle : ℕ) (need : Need) : Type 0 where
  pub command : Command
  pub place : IsFor p.config.ranks log need
  pub needed : command_of p.config (commands_after p) log need ≡ Some command
  pub is_next : IsNextIn p end cycle command

-- what needs the next command that is issued after a past and before `end`, if nothing arrives any more, or none where
-- none is issued
abbrev pub IsNextBefore : Past → List Arrived → ℕ → Option (ℕ × Need) → Type 0
IsNextBefore p log end (Some next) = IsNeededIn p log end next.0 next.1
IsNextBefore p log end None = IsIdle p.config p.channel p.steps p.mail (end - length p.steps)

-- cycles of draining are counted if and only if the channel ever drains its writes
abbrev pub CountsDrains : Channel → Type 0
CountsDrains c = is_some c.stats.draining ≡ nat_lt 0 c.config.write_high

-- the statistics of a channel with one command more, which is a row hit or not, and whose cycle is counted already
abbrev pub counted : Channel → Command → Bool → ChannelStats
counted c command hit = channel_joined c.stats (one_command (kind_of command) hit)

-- a channel once its command is counted, whose cycle was: the cycle is over, and what comes next is not known
abbrev pub after_cycle : Channel → Command → Bool → Channel
after_cycle c command hit = record c { cycle = c.cycle + 1; next_command = Unknown; stats = counted c command hit }

-- the statistics of a cycle in which a channel issues nothing
abbrev pub idle_cycle : Channel → ℕ → ChannelStats
idle_cycle c now =
    cycle_with_hit c.config (length (waiting_requests c.queue.log)) (is_some (lowest_owed c.refresh now))
    (is_draining c.queue) None false

-- the statistics of a channel after the cycles up to `until`, each of which is like the next one, and in which it
-- issues nothing
abbrev pub skipped : Channel → ℕ → ChannelStats
skipped c until = channel_joined c.stats (channel_times (until - c.cycle) (idle_cycle c c.cycle))

-- a channel in a cycle that is counted, as are those before it: each is like the next one, and in those before it
-- nothing is issued
abbrev pub counted_through : Channel → ℕ → Channel
counted_through c cycle = record c { cycle = cycle; stats = skipped c (cycle + 1) }

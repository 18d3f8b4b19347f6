-- What a channel does next.
--     StandFor bank_candidates banks refresh queue groups s history      the parts of a channel stand for its commands
--     ForParts parts fact      a fact of each configuration and its commands that the parts of a channel stand for
--     choice_in s history queue now      the command of a cycle
--     needed_if column history r      the command that a request needs, if it is a column command, or is none
--     need_of column place      the request at a place needs a column command, or one that opens or closes a row
--     command_of s history log need      the command that a need asks for
--     IsFor ranks log need      a need is a request that waits, or a rank that there is
--     HasPlace ranks log next      what needs the next command, if anything, is a request that waits, or a rank that there is
--     HoldsBack s history rank due now rest commands      a rank that is to be refreshed goes first
--     TakesRefresh parts rank due old new      what comes next takes in the refresh of a rank
use Rattle.std.specs.Prelude.{◌≡◌, ℕ, ◌<◌, ◌≤◌, Bool, true, false, List, length, Option, Some, None, option_and_then, slice_get, IfSome, if◌then◌else◌}
use Rattle.sim_base.specs.declared.config.Config.{Config}
use Rattle.sim_base.specs.declared.command.Command.{Command}
use Rattle.sim_base.specs.declared.command.IssuedCommand.{IssuedCommand}
use Rattle.sim_base.specs.declared.message.Request.{Request}
use Rattle.sim_base.specs.Scheduling.{choice_between, if_legal, is_column_command, lowest_due, needed, refresh_command}
use Rattle.bank_ready.specs.declared.banks.Banks.{Banks}
use Rattle.bank_ready.specs.Stands.{StandsFor as BanksStandFor}
use Rattle.bank_ready.specs.Refreshes.{RefreshCounts, is_due_at, StandsFor as RefreshesStandFor}
use Rattle.queue.specs.declared.bank_candidates.all_banks.BankCandidates.{BankCandidates}
use Rattle.queue.specs.Candidates.{rows_after}
use Rattle.queue.specs.Stands.{StandsFor as CandidatesStandFor}
use Rattle.queue.specs.declared.request_log.Arrived.{Arrived}
use Rattle.queue.specs.Log.{all_requests, waits_at}
use Rattle.queue.specs.View.{QueueView}
use Rattle.channel_step.specs.FrFcfs.Requests.{KnowsRows, candidates_of}
use Rattle.channel_step.specs.FrFcfs.Cycles.{IsNext}
use Rattle.channel_step.specs.declared.fr_fcfs.choice.ChannelParts.{ChannelParts}
use Rattle.channel_step.specs.declared.fr_fcfs.choice.Need.{Need}
use Rattle.channel_step.specs.declared.fr_fcfs.choice.Need.TheVariants as Needs

-- The banks and the refreshes stand for the commands so far, under a configuration with this many groups and the
-- queue's `high`, and the candidates for the queue and the rows that are open.
pub record StandFor (bank_candidates : BankCandidates) (banks : Banks) (refresh : RefreshCounts) (queue : QueueView)
    (groups : ℕ) (s : Config) (history : List IssuedCommand) : Type 0 where
  pub banks_stand : BanksStandFor banks s history
  pub candidates_stand : CandidatesStandFor bank_candidates queue.log (rows_after history)
  pub refreshes_stand : RefreshesStandFor refresh s history
  pub groups_are : s.groups ≡ groups
  pub high_is : s.write_high ≡ queue.high

-- a fact of each configuration, and its commands so far, that the parts of a channel stand for
abbrev pub ForParts : ChannelParts → (Config → List IssuedCommand → Type 0) → Type 0
ForParts parts fact =
    (s : Config) (history : List IssuedCommand)
    → StandFor parts.bank_candidates.now parts.banks.now parts.refresh.now parts.queue.now parts.groups s history
    → fact s history

-- the command that a channel issues in a cycle with this queue, if it issues one
abbrev pub choice_in : Config → List IssuedCommand → QueueView → ℕ → Option Command
choice_in s history queue now = choice_between s history now (candidates_of s queue) (lowest_due s history now)

-- the command that a request needs, if it is a column command (`column` is true), or if it is none
abbrev pub needed_if : Bool → List IssuedCommand → Request → Option Command
needed_if true history r = if is_column_command (needed history r) then Some (needed history r) else None
needed_if false history r = if is_column_command (needed history r) then None else Some (needed history r)

-- the request at a place needs a column command, or an ACT or a PRE
abbrev pub need_of : Bool → ℕ → Need
need_of true place = Needs.Column place
need_of false place = Needs.Row place

-- The command that a need asks for: the column command that the request at a place of a log needs, or the ACT or the PRE
-- that it needs, or what a rank needs that is to be refreshed. There is none if the request needs another one.
abbrev pub command_of : Config → List IssuedCommand → List Arrived → Need → Option Command
command_of s history log (Needs.Row place) = option_and_then (needed_if false history) (slice_get (all_requests log) place)
command_of s history log (Needs.Column place) = option_and_then (needed_if true history) (slice_get (all_requests log) place)
command_of s history log (Needs.Refresh rank) = Some (refresh_command s history rank)

-- A need is a request that waits at a place of a log, or one of `ranks` ranks.
abbrev pub IsFor : ℕ → List Arrived → Need → Type 0
IsFor ranks log (Needs.Row place) = (place < length log) × (waits_at log place ≡ true)
IsFor ranks log (Needs.Column place) = (place < length log) × (waits_at log place ≡ true)
IsFor ranks log (Needs.Refresh rank) = rank < ranks

-- What needs the next command, if anything, is a request that waits at a place of a log, or one of `ranks` ranks.
abbrev pub HasPlace : ℕ → List Arrived → Option (ℕ × Need) → Type 0
HasPlace ranks log next = IfSome next (λ n. IsFor ranks log n.1)

-- Where a refresh of a rank is due, the command of a cycle is what the refresh needs, once that may be issued, and no
-- other one; in the other cycles from `now` on it is the command of the rest.
abbrev pub HoldsBack : Config → List IssuedCommand → ℕ → Option ℕ → ℕ → (ℕ → Option Command) → (ℕ → Option Command)
    → Type 0
HoldsBack s history rank due now rest commands =
    (c : ℕ) → now ≤ c
    → commands c ≡ (if is_due_at due c then if_legal s history c (refresh_command s history rank) else rest c)

-- Where `old` says which command of the rest comes next, `new` says which command comes next once a refresh of a rank,
-- which may be due from a cycle on, holds the rest back. This is so after each history that the banks of a channel
-- stand for and whose open rows its candidates know, from each cycle that is not behind the one from which on the
-- refresh is due.
abbrev pub TakesRefresh : ChannelParts → ℕ → Option ℕ → Option (ℕ × Need) → Option (ℕ × Need) → Type 0
TakesRefresh parts rank due old new =
    (s : Config) (history : List IssuedCommand) (log : List Arrived)
    (commands rest : ℕ → Option Command) (now : ℕ)
    → BanksStandFor parts.banks.now s history
    → KnowsRows parts.bank_candidates.now history
    → s.groups ≡ parts.groups
    → IfSome due (λ cycle. now ≤ cycle)
    → HoldsBack s history rank due now rest commands
    → IsNext rest (command_of s history log) now old
    → IsNext commands (command_of s history log) now new

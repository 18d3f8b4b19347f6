-- When requests that arrive leave the choice as it is.
--     ComesAfter s history cycle hit r      a request does not go before what is chosen for a cycle
--     KeepsNext before after cycle command      the next command stays the same
--     StaysFound s history before accesses queue found      what was found stays the next command with those that arrived
use Rattle.std.specs.Prelude.{◌≡◌, ℕ, ◌<◌, Bool, false, List, Option, Some, None}
use Rattle.sim_base.specs.declared.config.Config.{Config}
use Rattle.sim_base.specs.declared.command.Command.{Command}
use Rattle.sim_base.specs.declared.command.IssuedCommand.{IssuedCommand}
use Rattle.sim_base.specs.declared.message.Request.{Request}
use Rattle.sim_base.specs.Rules.{is_legal}
use Rattle.sim_base.specs.Scheduling.{needed}
use Rattle.queue.specs.declared.request_log.Arrived.{Arrived}
use Rattle.queue.specs.View.{QueueView}
use Rattle.channel_step.specs.FrFcfs.Offers.{going}
use Rattle.channel_step.specs.FrFcfs.Requests.{candidates_of, finds_row_open}
use Rattle.channel_step.specs.FrFcfs.Choices.{choice_in, command_of}
use Rattle.channel_step.specs.declared.fr_fcfs.accesses.Accesses.{Accesses}
use Rattle.channel_step.specs.declared.fr_fcfs.choice.Need.{Need}

-- What a request needs may not be issued before a cycle. It is no column command, unless what is chosen for the cycle
-- is one (`hit`).
pub record ComesAfter (s : Config) (history : List IssuedCommand) (cycle : ℕ) (hit : Bool) (r : Request) : Type 0 where
  pub late : (t : ℕ) → t < cycle → is_legal s history t (needed history r) ≡ false
  pub no_hit : hit ≡ false → finds_row_open history r ≡ false

-- If a command was chosen for a cycle before a change, it still is after it, and the earlier cycles with no command
-- still have none.
pub record KeepsNext (before after : ℕ → Option Command) (cycle : ℕ) (command : Command) : Type 0 where
  pub then_is : before cycle ≡ Some command → after cycle ≡ Some command
  pub none_before : (t : ℕ) → t < cycle → before t ≡ None → after t ≡ None

-- What was found, a cycle and what needs its command, stays the next command of a queue whose log was `before`, when
-- requests of these accesses went, and has got longer since.
abbrev pub StaysFound : Config → List IssuedCommand → List Arrived → Accesses → QueueView → ℕ × Need → Type 0
StaysFound s history before accesses queue found =
    (earlier : QueueView) (command : Command) → earlier.log ≡ before → candidates_of s earlier ≡ going accesses before
    → command_of s history queue.log found.1 ≡ Some command
    → KeepsNext (choice_in s history earlier) (choice_in s history queue) found.0 command

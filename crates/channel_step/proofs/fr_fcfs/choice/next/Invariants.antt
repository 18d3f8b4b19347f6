use Rattle.std.proofs.Common.{◌≡◌, ℕ, ◌+◌, ◌≤◌, List}
use Rattle.std.specs.Option.{IfSome}
use Rattle.sim_base.specs.declared.config.Config.{Config}
use Rattle.sim_base.specs.declared.command.IssuedCommand.{IssuedCommand}
use Rattle.bank_ready.specs.Stands.{rank_count}
use Rattle.channel_step.specs.FrFcfs.Requests.{candidates_of}
use Rattle.channel_step.specs.FrFcfs.Cycles.{IsNext}
use Rattle.channel_step.specs.FrFcfs.Choices.{StandFor, command_of, IsFor}
use Rattle.channel_step.proofs.FrFcfs.Waking.{chosen_from}
use Rattle.channel_step.proofs.fr_fcfs.choice.next.Given as goal

-- the first command, as far as only the ranks from this one on are to be refreshed
abbrev pub invariant-loop-rank : goal.invariant-loop-rank
invariant-loop-rank l = record {
  rank : l.rank ≤ l.parts.refresh.now.ranks;
  next : (s : Config) (history : List IssuedCommand) → StandFor l.parts.bank_candidates.now l.parts.banks.now l.parts.refresh.now l.parts.queue.now l.parts.groups s history → (n : ℕ) → l.rank + n ≡ l.parts.refresh.now.ranks
      → IsNext (chosen_from s history (candidates_of s l.parts.queue.now) l.rank n) (command_of s history l.parts.queue.now.log) l.now l.next;
  place : (s : Config) (history : List IssuedCommand) → StandFor l.parts.bank_candidates.now l.parts.banks.now l.parts.refresh.now l.parts.queue.now l.parts.groups s history
      → IfSome l.next (λ next. IsFor (rank_count l.parts.banks.now) l.parts.queue.now.log next.1);
}

abbrev pub decreases-loop-rank : goal.decreases-loop-rank
decreases-loop-rank l = l.rank

use Rattle.std.proofs.Common.{◌≡◌, ℕ, Bool, true, List, length, Option}
use Rattle.sim_base.specs.declared.config.Config.{Config}
use Rattle.sim_base.specs.declared.command.IssuedCommand.{IssuedCommand}
use Rattle.queue.specs.declared.request_log.Arrived.{Arrived}
use Rattle.queue.specs.Sets.{is_in}
use Rattle.channel_step.specs.FrFcfs.Requests.{StandForLog}
use Rattle.channel_step.specs.FrFcfs.Offers.{IsBestSoFar, row_requests_beside, with_skipped, AreNotSkipped}
use Rattle.channel_step.proofs.FrFcfs.Beside.{size}
use Rattle.channel_step.proofs.fr_fcfs.first.with_rows_of.Given as goal

-- the first offer of the banks that are not left
abbrev pub invariant-loop-bank : goal.invariant-loop-bank
invariant-loop-bank l = record {
  among : (k : ℕ) → is_in l.rest k ≡ true → is_in l.fn.asked k ≡ true;
  so_far : (s : Config) (history : List IssuedCommand) (log : List Arrived) (hits : ℕ → Option ℕ) (left : ℕ → Bool)
      → StandForLog l.bank_candidates l.banks s history log
      → AreNotSkipped (is_in l.fn.asked) left
      → IsBestSoFar (length log) l.commands.now hits (row_requests_beside s history log l.commands.accesses (with_skipped (is_in l.fn.asked) left)) l.fn.best
      → IsBestSoFar (length log) l.commands.now hits (row_requests_beside s history log l.commands.accesses (with_skipped (is_in l.rest) left)) l.best;
}

abbrev pub decreases-loop-bank : goal.decreases-loop-bank
decreases-loop-bank l = size (λ k. is_in l.rest k) 64

use Rattle.std.proofs.Common.{◌≡◌, ℕ, ◌<◌, true, List, length, Option}
use Rattle.sim_base.specs.declared.config.Config.{Config}
use Rattle.sim_base.specs.declared.command.IssuedCommand.{IssuedCommand}
use Rattle.queue.specs.declared.request_log.Arrived.{Arrived}
use Rattle.sim_base.specs.Earlier.{earlier}
use Rattle.queue.specs.Sets.{is_in}
use Rattle.queue.specs.Stands.{bank_count}
use Rattle.channel_step.specs.FrFcfs.Requests.{StandForLog}
use Rattle.channel_step.specs.FrFcfs.Offers.{only, IsBestSoFar, hits_now}
use Rattle.channel_step.proofs.FrFcfs.Beside.{place_beside, size}
use Rattle.channel_step.proofs.fr_fcfs.first.with_all_hits.Given as goal

-- the first row hit of the banks that are not left
abbrev pub invariant-loop-bank : goal.invariant-loop-bank
invariant-loop-bank l = record {
  within : (k : ℕ) → is_in l.rest k ≡ true → k < bank_count l.bank_candidates;
  so_far : (s : Config) (history : List IssuedCommand) (log : List Arrived) (hits rows : ℕ → Option ℕ)
      → StandForLog l.bank_candidates l.banks s history log
      → IsBestSoFar (length log) l.commands.now hits rows l.fn.best
      → IsBestSoFar (length log) l.commands.now (λ cycle. earlier (hits cycle) (place_beside (λ k. is_in l.rest k) (hits_now s history (only l.commands.access) cycle) log)) rows l.best;
}

abbrev pub decreases-loop-bank : goal.decreases-loop-bank
decreases-loop-bank l = size (λ k. is_in l.rest k) 64

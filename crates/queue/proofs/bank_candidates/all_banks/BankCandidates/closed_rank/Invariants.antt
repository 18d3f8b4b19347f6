use Rattle.std.proofs.Common.{◌≡◌, ℕ, List, Option}
use Rattle.queue.specs.declared.request_log.Arrived.{Arrived}
use Rattle.queue.specs.Stands.{StandsFor, bank_count}
use Rattle.queue.proofs.Stood.{closed_before}
use Rattle.queue.proofs.bank_candidates.all_banks.BankCandidates.closed_rank.Given as goal

-- the banks of the rank so far are closed
abbrev pub invariant-loop-number : goal.invariant-loop-number
invariant-loop-number l = record {
  banks : bank_count l.self ≡ bank_count l.initial.self;
  stands : (log : List Arrived) (open_rows : ℕ → Option ℕ) → StandsFor l.initial.self log open_rows
      → StandsFor l.self log (closed_before l.number l.rank open_rows);
}

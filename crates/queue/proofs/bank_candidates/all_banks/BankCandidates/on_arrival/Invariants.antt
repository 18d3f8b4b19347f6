use Rattle.std.proofs.Common.{◌≡◌, ℕ, Option, take}
use Rattle.queue.specs.Stands.{StandsFor, bank_count}
use Rattle.queue.proofs.bank_candidates.all_banks.BankCandidates.on_arrival.Given as goal

-- the candidates of the requests so far
abbrev pub invariant-loop-place : goal.invariant-loop-place
invariant-loop-place l = record {
  banks : bank_count l.self ≡ bank_count l.initial.self;
  stands : (open_rows : ℕ → Option ℕ) → StandsFor l.initial.self (take l.fn.from l.log.log) open_rows
      → StandsFor l.self (take l.place l.log.log) open_rows;
}

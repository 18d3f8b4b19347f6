use Rattle.std.proofs.Common.{◌≡◌, ℕ, ◌<◌, None, get_or}
use Rattle.sim_base.specs.declared.message.Access.{Access}
use Rattle.queue.specs.Candidates.{AreFirst, HasFewBanks, access_number}
use Rattle.queue.specs.Words.{access_in}
use Rattle.queue.proofs.bank_candidates.all_banks.BankCandidates.renew.Given as goal

-- the candidates of the banks so far are found
abbrev pub invariant-loop-bank : goal.invariant-loop-bank
invariant-loop-bank l = record {
  rows : l.self.rows.items ≡ l.initial.self.rows.items;
  counts : l.self.counts.items ≡ l.initial.self.counts.items;
  found : HasFewBanks l.log.log → (bank : ℕ) (access : Access) → bank < l.bank → AreFirst l.log.log bank access (get_or l.self.rows.items bank None) (access_in l.self.candidate_words.words.items (access_number bank access));
}

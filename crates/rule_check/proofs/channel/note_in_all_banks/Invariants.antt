-- The command is noted in each bank so far, and in no other.
use Rattle.std.proofs.Common.{◌≡◌, ◌<◌, ◌≤◌, ℕ, get_or}
use Rattle.rule_check.specs.Kept.{bank_after}
use Rattle.sim_base.specs.Places.{bank_at}
use Rattle.rule_check.specs.declared.state.Bank.{Bank}
use Rattle.rule_check.proofs.channel.note_in_all_banks.Given as goal

abbrev pub invariant-loop-k : goal.invariant-loop-k
invariant-loop-k l = record {
  noted : (k : ℕ) (d : Bank) → k < l.k → get_or l.banks k d ≡ bank_after (bank_at k) l.cycle l.command (get_or l.fn.banks k d);
  left : (k : ℕ) (d : Bank) → l.k ≤ k → get_or l.banks k d ≡ get_or l.fn.banks k d;
}

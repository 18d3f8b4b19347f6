use Rattle.std.proofs.Common.{◌≡◌, ℕ, take}
use Rattle.std.specs.HashSet.{contains}
use Rattle.measures.specs.Hits.{same_entry, has_act}
use Rattle.measures.proofs.bank_counts.hits.with_acts.Given as goal

-- the entries of the ACTs so far
abbrev pub invariant-loop-issued : goal.invariant-loop-issued
invariant-loop-issued l = (q : ℕ × ℕ) → contains same_entry l.entries q ≡ has_act (take l.issued-index l.commands) q

use Rattle.std.proofs.Common.{◌≡◌, map, take}
use Rattle.measures.specs.Banks.{counts_in}
use Rattle.measures.proofs.bank_counts.channels.counts_of.Given as goal

-- what the banks so far did
abbrev pub invariant-loop-bank : goal.invariant-loop-bank
invariant-loop-bank l = l.counts.items ≡ map (counts_in l.fn.commands) (take l.bank-index l.bank-items)

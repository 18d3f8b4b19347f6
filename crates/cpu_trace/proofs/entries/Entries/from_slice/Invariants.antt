use Rattle.std.proofs.Common.{◌≡◌, take}
use Rattle.cpu_trace.proofs.entries.Entries.from_slice.Given as goal

abbrev pub invariant-loop-entry : goal.invariant-loop-entry
invariant-loop-entry l = l.all ≡ take l.entry-index l.entries

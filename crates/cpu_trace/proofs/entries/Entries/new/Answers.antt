use Rattle.std.proofs.Common.{arith}
use Rattle.cpu_trace.proofs.Growth.{entries_after-none, IsAscending-none}
use Rattle.cpu_trace.proofs.entries.Entries.new.Goals as goal

pub invariant_of-result : goal.invariant_of-result
invariant_of-result c = rw c.new.ensures.items (IsAscending-none, omega arith)

pub returns : goal.returns
returns c = rw c.new.ensures.items entries_after-none

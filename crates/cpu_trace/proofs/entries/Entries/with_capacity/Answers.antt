use Rattle.std.proofs.Common.{arith}
use Rattle.cpu_trace.proofs.Growth.{entries_after-none, IsAscending-none}
use Rattle.cpu_trace.proofs.entries.Entries.with_capacity.Goals as goal

pub invariant_of-result : goal.invariant_of-result
invariant_of-result c = rw c.in_ok-with_capacity.ensures.items (IsAscending-none, omega arith)

pub returns : goal.returns
returns c = rw c.in_ok-with_capacity.ensures.items entries_after-none

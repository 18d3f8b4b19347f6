use Rattle.std.proofs.Common.{length, ap, arith}
use Rattle.cpu_trace.proofs.Growth.{length-entries_after}
use Rattle.cpu_trace.proofs.entries.Entries.len.Goals as goal

pub returns-clause-value : goal.returns-clause-value
returns-clause-value c = omega (arith, length-entries_after 0 _ _ c.self.invariant.0, ap length c.self.view_is)

use Rattle.std.proofs.Common.{length, ap, arith}
use Rattle.cpu_trace.proofs.Growth.{length-entries_after, entries_after-plain, IsAscending-plain}
use Rattle.cpu_trace.proofs.entries.Entries.add_plain.Goals as goal

pub invariant_of-self : goal.invariant_of-self
invariant_of-self c =
    (IsAscending-plain 0 _ _ _ c.self.invariant.0, omega (arith, length-entries_after 0 _ _ c.self.invariant.0, ap length c.self.view_is))

pub returns : goal.returns
returns c = rw (← c.self.view_is) (entries_after-plain 0 _ _ _ c.self.invariant.0)

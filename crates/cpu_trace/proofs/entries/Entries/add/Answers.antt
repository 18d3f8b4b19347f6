use Rattle.std.proofs.Common.{length, ap, arith}
use Rattle.cpu_trace.proofs.Growth.{length-entries_after, entries_after-push, IsAscending-push}
use Rattle.cpu_trace.proofs.entries.Entries.add.Goals as goal

pub invariant_of-self-2 : goal.invariant_of-self-2
invariant_of-self-2 c =
    rw (c.in_ok-push.ensures.items, c.new.ensures)
    (IsAscending-push 0 _ _ _ _ c.requires.memory c.self.invariant.0, omega (arith, length-entries_after 0 _ _ c.self.invariant.0, ap length c.self.view_is))

pub returns-clause-ok : goal.returns-clause-ok
returns-clause-ok c = rw (c.in_ok-push.ensures.items, c.new.ensures, ← c.self.view_is) (entries_after-push 0 _ _ _ _ c.self.invariant.0)

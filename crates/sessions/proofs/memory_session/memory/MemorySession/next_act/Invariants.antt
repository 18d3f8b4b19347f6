-- The next cycle in which one of the channels so far acts; none is changed.
use Rattle.std.proofs.Common.{◌≡◌}
use Rattle.sessions.specs.Memories.{Pasts, IsMemory, IsNextActOf}
use Rattle.sessions.proofs.memory_session.memory.MemorySession.next_act.Given as goal

abbrev pub invariant-loop-number : goal.invariant-loop-number
invariant-loop-number l = record {
  sessions : l.self.sessions.items ≡ l.fn.self.sessions.items;
  config : l.self.config ≡ l.fn.self.config;
  cycle : l.self.cycle ≡ l.fn.self.cycle;
  next : (pasts : Pasts) → IsMemory l.fn.self pasts → IsNextActOf l.number pasts l.fn.self.cycle l.first;
}

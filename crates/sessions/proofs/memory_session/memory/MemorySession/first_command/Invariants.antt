-- The earliest of the channels so far.
use Rattle.sessions.specs.Earliest.{IsEarliest}
use Rattle.sessions.specs.Memories.{Pasts, IsMemory, command_cycles}
use Rattle.sessions.proofs.memory_session.memory.MemorySession.first_command.Given as goal

abbrev pub invariant-loop-number : goal.invariant-loop-number
invariant-loop-number l = (pasts : Pasts) → IsMemory l.self pasts → IsEarliest (command_cycles pasts l.self.cycle) l.number l.first

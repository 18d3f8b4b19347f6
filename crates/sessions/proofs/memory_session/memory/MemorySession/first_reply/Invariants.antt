-- The earliest of the channels so far.
use Rattle.sessions.specs.Earliest.{IsEarliest}
use Rattle.sessions.specs.Memories.{Pasts, IsMemory, reply_arrivals}
use Rattle.sessions.proofs.memory_session.memory.MemorySession.first_reply.Given as goal

abbrev pub invariant-loop-number : goal.invariant-loop-number
invariant-loop-number l = (pasts : Pasts) → IsMemory l.self pasts → IsEarliest (reply_arrivals pasts l.self.cycle) l.number l.first

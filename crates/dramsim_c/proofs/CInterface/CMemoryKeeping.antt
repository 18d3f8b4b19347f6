-- A memory that is new.
use Rattle.std.specs.Prelude.{ℕ, List}
use Rattle.sessions.specs.Memories.{IsOpenMemory, no_pasts}
use Rattle.sessions.specs.declared.memory_session.memory.MemorySession.{MemorySession}
use Rattle.dramsim_c.specs.CInterface.Memories.{IsNewMemory}

-- a memory that is new has channels with some pasts
pub new-is-open : (text : List ℕ) (memory : MemorySession) → IsNewMemory text memory → IsOpenMemory memory
new-is-open text memory h = record { pasts = no_pasts h.config; is_memory = h.pasts }

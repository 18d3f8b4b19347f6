-- An open handle owns what a box of a memory owns.
use mir.Syntax.{impl, tnil, dnil}
use mathlib.Core.List.{[]}
use denote.Signature.{Slot, plain}
use Rattle.std.proofs.BoxSteps.Form.{Bx}
use Rattle.std.specs.contracts.alloc.Global as heap
use Rattle.std.specs.contracts.impls.GlobalAllocator.TheImpl.{ghosts, dict}
use Rattle.std.proofs.alloc.Global.TheLaws as heap_laws
use Rattle.sessions.specs.contracts.memory_session.memory.MemorySession as memory
use Rattle.sessions.proofs.memory_session.memory.MemorySession.TheLaws as memory_laws
use Rattle.dramsim_c.specs.contracts.c_interface.c_memory.handle.Handle as handle
use Rattle.dramsim_c.specs.contracts.c_interface.loose.Loose as loose

-- a memory in a box, by the allocator of the program
abbrev pub E : Bx
E = record { row = memory.the_row; laws = memory_laws.the_row_laws; al = record { row = heap.the_row; laws = heap_laws.the_row_laws; g = ghosts; d = dict; drops = impl [] tnil dnil } }

abbrev pub FromLoose : Slot 0
FromLoose = plain (λ _. loose.the_row memory.the_row heap.the_row ghosts)

abbrev pub FromHandle : Slot 0
FromHandle = plain (λ _. handle.the_row)

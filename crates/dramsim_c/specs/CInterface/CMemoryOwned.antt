-- What the handle of a memory owns: nothing while it is closed, and what a `Box<MemorySession>` owns while it is open.
--     memory_owns alloc at value      what a handle with this pointer owns
use base.Fml.{Fml}
use base.Stored.{Coded}
use denote.RawPtr.{Ptr}
use Rattle.std.specs.Prelude.{Option}
use Rattle.std.specs.Coded.{coded_option}
use Rattle.std.specs.Global.{Global}
use Rattle.sessions.specs.contracts.memory_session.memory.MemorySession.{the_row}
use Rattle.dramsim_c.specs.CInterface.Owned.{handle_owns}

-- a memory, if there is one
abbrev pub memory_owns : Global → Ptr → Option the_row.Denot → Fml
memory_owns = handle_owns the_row

-- what is kept in the place of a memory that may be there, as code has it
abbrev pub memory_coded : Coded (Option the_row.Denot)
memory_coded = coded_option the_row.coded

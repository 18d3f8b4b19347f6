-- What a handle owns: nothing while it is closed, and what a box owns while it is open.
--     handle_owns row alloc at value      what a handle with this pointer owns, of the type of a row
--     Holds value      a handle is open
use base.Fml.{Fml, ftrue}
use base.Stored.{Coded}
use denote.RattleType.{RattleType}
use denote.RawPtr.{Ptr}
use Rattle.std.specs.Prelude.{Option, Some, None}
use Rattle.std.specs.Coded.{coded_option}
use Rattle.std.specs.Box.Ownership.{box_owns}
use Rattle.std.specs.Global.{Global}
use Rattle.std.specs.contracts.impls.GlobalAllocator.TheImpl.{ghosts}
use Rattle.sessions.specs.contracts.channel_session.session.Session.{the_row}

-- what a handle owns: a box at its pointer, if it holds a value
abbrev pub handle_owns : (R : RattleType) → Global → Ptr → Option R.Denot → Fml
handle_owns R alloc at (Some value) = box_owns (ghosts.dealloc_token alloc) R at value
handle_owns R alloc at None = ftrue

-- a handle holds a value
abbrev pub Holds : {T : Type 0} → Option T → Type 0
Holds (Some value) = Unit {0}
Holds None = ⊥

-- a session, if there is one
abbrev pub session_owns : Global → Ptr → Option the_row.Denot → Fml
session_owns = handle_owns the_row

-- what is kept in the place of a session that may be there, as code has it
abbrev pub session_coded : Coded (Option the_row.Denot)
session_coded = coded_option the_row.coded

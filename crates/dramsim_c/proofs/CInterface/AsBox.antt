-- An open handle owns what a box of a session owns.
use mathlib.Core.Path.{◌≡◌, refl}
use mir.Syntax.{impl, tnil, dnil}
use mathlib.Core.List.{[]}
use denote.Signature.{Slot, plain}
use Rattle.std.specs.Prelude.{Option, Some, None}
use Rattle.std.proofs.BoxSteps.Form.{Bx}
use Rattle.std.specs.contracts.alloc.Global as heap
use Rattle.std.specs.contracts.impls.GlobalAllocator.TheImpl.{ghosts, dict}
use Rattle.std.proofs.alloc.Global.TheLaws as heap_laws
use Rattle.sessions.specs.contracts.channel_session.session.Session as session
use Rattle.sessions.proofs.channel_session.session.Session.TheLaws as session_laws
use Rattle.dramsim_c.specs.CInterface.Owned.{Holds}
use Rattle.dramsim_c.specs.contracts.c_interface.handle.Handle as handle
use Rattle.dramsim_c.specs.contracts.c_interface.loose.Loose as loose

-- a session in a box, by the allocator of the program
abbrev pub E : Bx
E = record { row = session.the_row; laws = session_laws.the_row_laws; al = record { row = heap.the_row; laws = heap_laws.the_row_laws; g = ghosts; d = dict; drops = impl [] tnil dnil } }

abbrev pub FromLoose : Slot 0
FromLoose = plain (λ _. loose.the_row session.the_row heap.the_row ghosts)

abbrev pub FromHandle : Slot 0
FromHandle = plain (λ _. handle.the_row)

-- the value of a handle that holds one
unfoldable pub held : {T : Type 0} → (value : Option T) → Holds value → T
held (Some x) h = x
held None h = absurd h

pub is_held : {T : Type 0} → (value : Option T) (h : Holds value) → value ≡ Some (held value h)
unfolding held
is_held (Some x) h = refl
is_held None h = absurd h

-- What a set of files holds, and what a call changes.
--     Held      what each path holds
--     AreHeld held paths texts      the first of these paths hold these texts
--     SameFiles old new      no path has changed
--     SameBut at old new      no other path has changed
--     SameButTwo a b old new      no path but these two has changed
--     IsRenamed from to old new      a file has got another path
--     IsUntouched old new before after      no file has changed, and none was opened to be written
--     IsReadFault tells found fault      why a file is not read
use Rattle.std.specs.Prelude.{◌≡◌, ◌≢◌, ◌⊎◌, ◌<◌, ℕ, List, length, slice_index_or, Option, Some, None}
use Rattle.sim_base.specs.declared.fault.Fault.{Fault}
use Rattle.sim_base.specs.declared.fault.Fault.TheVariants.{Memory, Read}

-- what each path holds: the bytes of a file, or None where there is none
abbrev pub Held : Type 0
Held = List ℕ → Option (List ℕ)

-- each of these texts is what its path holds
abbrev pub AreHeld : Held → List (List ℕ) → List (List ℕ) → Type 0
AreHeld held paths texts =
    (k : ℕ) (path text : List ℕ) → k < length texts
    → held (slice_index_or paths k path) ≡ Some (slice_index_or texts k text)

-- no path has changed
abbrev pub SameFiles : Held → Held → Type 0
SameFiles old new = (path : List ℕ) → new path ≡ old path

-- no other path has changed
abbrev pub SameBut : List ℕ → Held → Held → Type 0
SameBut at old new = (path : List ℕ) → path ≢ at → new path ≡ old path

-- no path but these two has changed
abbrev pub SameButTwo : List ℕ → List ℕ → Held → Held → Type 0
SameButTwo a b old new = (path : List ℕ) → path ≢ a → path ≢ b → new path ≡ old path

-- a file has got another path, where it replaces what stood there
pub record IsRenamed (from to : List ℕ) (old new : Held) : Type 0 where
  pub moved : new to ≡ old from
  pub gone : from ≢ to → new from ≡ None
  pub others : SameButTwo from to old new

-- no file has changed, and none was opened to be written
pub record IsUntouched (old new : Held) (before after : List (List ℕ)) : Type 0 where
  pub same : SameFiles old new
  pub unopened : after ≡ before

-- memory was refused; or the file cannot be read, and where the set tells, there is none
abbrev pub IsReadFault : Type 0 → Option (List ℕ) → Fault → Type 0
IsReadFault tells found fault = (fault ≡ Memory) ⊎ ((fault ≡ Read) × (tells → found ≡ None))

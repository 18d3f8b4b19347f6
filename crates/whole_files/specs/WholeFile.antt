-- How one file comes to its path: it is written under that path with `.part` appended, and gets its place when it is
-- whole.
--     from_path move, to_path move      the paths of a file's way
--     GetsPlace move old new      a file goes that way
--     part_of path      the path under which it is written
--     IsMoveTo path move      its way
--     IsWhole path text old new      it is in its place
--     IsGone path old new      it is not, and nothing is left of it
--     IsUnwritten path old new before after      nothing was touched, or it is not in its place
use Rattle.std.specs.Prelude.{◌≡◌, ◌⊎◌, ℕ, List, ◌++◌, codes, Some, None, string_bytes}
use Rattle.whole_files.specs.Files.{Held, SameBut, SameButTwo, IsRenamed, IsUntouched}
use Rattle.whole_files.specs.declared.moves.Move.{Move}

-- the path under which a file is written, by its way
abbrev pub from_path : Move → List ℕ
from_path move = string_bytes move.from

-- the path that it gets
abbrev pub to_path : Move → List ℕ
to_path move = string_bytes move.to

-- the file goes that way: it replaces what stood in its place, and nothing else changes
abbrev pub GetsPlace : Move → Held → Held → Type 0
GetsPlace move old new = IsRenamed (from_path move) (to_path move) old new

-- the path under which a file is written
abbrev pub part_of : List ℕ → List ℕ
part_of path = path ++ codes ".part"

-- a file's way to its path
pub record IsMoveTo (path : List ℕ) (move : Move) : Type 0 where
  pub from_is : string_bytes move.from ≡ part_of path
  pub to_is : string_bytes move.to ≡ path

-- the file is in its place, nothing is left beside it, and nothing else has changed
pub record IsWhole (path text : List ℕ) (old new : Held) : Type 0 where
  pub text_is : new path ≡ Some text
  pub no_part : new (part_of path) ≡ None
  pub others : SameButTwo (part_of path) path old new

-- nothing is left of a file that did not get its place, and nothing else has changed
pub record IsGone (path : List ℕ) (old new : Held) : Type 0 where
  pub no_part : new (part_of path) ≡ None
  pub others : SameBut (part_of path) old new

-- a file is not in its place: nothing was touched, or nothing is left of it
abbrev pub IsUnwritten : List ℕ → Held → Held → List (List ℕ) → List (List ℕ) → Type 0
IsUnwritten path old new before after = IsUntouched old new before after ⊎ IsGone path old new

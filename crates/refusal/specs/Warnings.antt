-- What the program warns of, although it does what it is asked (this project).
--     large_page      the greatest length of a page, in bytes, that is made without a warning
--     IsWarningOf text warning      a page is warned of that is longer, with its length
--     warning_line page      the line of a warning
--     IsLine has_refused old new line, IsWarned warning has_refused old new      it was told
use Rattle.std.specs.Prelude.{◌≡◌, ℕ, ◌<◌, ◌≤◌, Bool, false, List, [], ◌++◌, length, codes, decimal, Option, Some, None}
use Rattle.std.specs.Io.KnownBytes.{Appends}
use Rattle.refusal.specs.Lines.{AppendsBeginning}
use Rattle.refusal.specs.declared.warning.LargePage.{LargePage}

-- a page is warned of where it has more than 50 MB
abbrev pub large_page : ℕ
large_page = 50000000

abbrev pub IsWarningOf : List ℕ → Option LargePage → Type 0
IsWarningOf text None = length text ≤ large_page
IsWarningOf text (Some page) = (large_page < length text) × (page.bytes ≡ length text)

-- how many cycles of its window would give a page that is not too long, where that is known
abbrev pub fitting_words : Option ℕ → List ℕ
fitting_words None = []
fitting_words (Some cycles) = codes "; with --cycles " ++ decimal cycles ++ codes " it has no more than that"

abbrev pub warning_line : LargePage → List ℕ
warning_line page =
    codes "warning: the page has " ++ decimal page.bytes ++ codes " bytes, more than 50000000"
    ++ fitting_words page.cycles ++ codes "\n"

-- a stream took a line whole, or a beginning of it where it has refused
pub record IsLine (has_refused : Bool) (old new : Option (List ℕ)) (line : List ℕ) : Type 0 where
  pub begun : AppendsBeginning old new line
  pub whole : has_refused ≡ false → Appends old new line

-- what is warned of was told, and nothing where there is nothing
abbrev pub IsWarned : Option LargePage → Bool → Option (List ℕ) → Option (List ℕ) → Type 0
IsWarned None has_refused old new = new ≡ old
IsWarned (Some page) has_refused old new = IsLine has_refused old new (warning_line page)

-- What stands for headings.
use Rattle.std.proofs.Common.{◌≡◌, ℕ, List, [], ◌∷◌, ◌++◌, refl, ap}
use Rattle.std.specs.List.{flat_map}
use Rattle.std.specs.Prelude.{map}
use Rattle.std.specs.Borrow.{Bor}
use Rattle.show.specs.Tables.{heading_text}

-- what stands for a heading
abbrev pub heading_at : Bor (List ℕ) → List ℕ
heading_at heading = heading_text heading.now

-- what stands for all of them
pub headings_are : (headings : List (Bor (List ℕ))) → flat_map heading_at headings ≡ flat_map heading_text (map (λ heading. heading.now) headings)
headings_are [] = refl
headings_are (heading ∷ rest) = ap (λ texts. heading_text heading.now ++ texts) (headings_are rest)

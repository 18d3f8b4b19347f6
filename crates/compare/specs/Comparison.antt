-- Runs beside the first of them.
--     comparison_text layout names runs tails      a column for each run, a line for each measure, and one for p99
use Rattle.std.specs.Prelude.{ℕ, ◌+◌, List, [], ◌∷◌, ◌++◌, codes, decimal, flat_map, length, slice_index_or, Option}
use Rattle.sim_base.specs.History.{below}
use Rattle.statistics.specs.Values.{RunStats}
use Rattle.compare.specs.Lines.{lines_text}
use Rattle.compare.specs.Texts.{cell_text, label_text}
use Rattle.compare.specs.declared.layout.Layout.{Layout}
use Rattle.compare.specs.declared.layout.Layout.TheVariants.{Screen, Csv}

-- the number and the name of a run
abbrev pub name_text : ℕ → List ℕ → List ℕ
name_text number name = codes "run " ++ decimal number ++ codes ": " ++ name ++ codes "\n"

-- a line for each, numbered from 1
unfoldable pub names_text : List (List ℕ) → List ℕ
names_text names = flat_map (λ place. name_text (place + 1) (slice_index_or names place [])) (below (length names))

-- what stands before the headings of a screen: the names of the runs, and room for the labels
abbrev pub screen_head : List (List ℕ) → List ℕ
screen_head names = names_text names ++ codes "\n" ++ label_text Screen []

-- what stands before the headings
abbrev pub head_text : Layout → List (List ℕ) → List ℕ
head_text Screen names = screen_head names
head_text Csv names = codes "measure"

-- the headings of a run behind the first
unfoldable pub heading_text : Layout → ℕ → List ℕ
heading_text layout number =
    cell_text layout 12 (codes "run " ++ decimal number)
    ++ cell_text layout 10 (codes "change " ++ decimal number ++ codes " %")

-- the headings of the first run, and of so many others
unfoldable pub headings_text : Layout → ℕ → List ℕ
headings_text layout others =
    cell_text layout 12 (codes "run 1") ++ flat_map (λ place. heading_text layout (place + 2)) (below others)
    ++ codes "\n"

-- the headings of runs, and lines below them
unfoldable pub runs_text : Layout → List (List ℕ) → ℕ → List ℕ → List ℕ
runs_text layout names others lines = head_text layout names ++ headings_text layout others ++ lines

-- runs beside the first of them: their names and headings, a line for each measure, and one for p99 where it is known
-- of each run; nothing for no runs
abbrev pub comparison_text : Layout → List (List ℕ) → List RunStats → List (Option ℕ) → List ℕ
comparison_text layout names [] tails = []
comparison_text layout names (base ∷ others) tails =
    runs_text layout names (length others) (lines_text layout base others tails)

-- Tables of text: a line of headings, and below it a line for each row, with each column flush right.
--     headings_text label headings      the line of headings
--     row_text headings label row      the line of a row
--     lines_text label headings summarized rows      both, with a line for each row
--     IsTable label headings all rows text      a table, which has a line for each row where there are few, or where all are asked for
--     headings_of layout, IsTableOf layout rows text      the headings of a layout, and a table of it
--     IsLayout label headings all layout      a layout with these headings
use Rattle.std.specs.Prelude.{◌≡◌, ℕ, ◌==◌, nat_le, max, Bool, true, false, ◌||◌, List, [], ◌++◌, codes, decimal, length, map, flat_map, slice_get, slice_index_or, Option, Some, if◌then◌else◌}
use Rattle.sim_base.specs.History.{below}
use Rattle.measures.specs.Number.{number_text}
use Rattle.measures.specs.Texts.{flush_right}
use Rattle.measures.specs.declared.number.Number.{Number}
use Rattle.show.specs.Summary.{IsSummary}
use Rattle.show.specs.declared.table.TableLayout.{TableLayout}

-- the width of a column of numbers: that of its heading, and at least five
abbrev pub width_of : List ℕ → ℕ
width_of heading = max (length heading) 5

-- a cell of a column of numbers
abbrev pub column_text : List ℕ → List ℕ → List ℕ
column_text heading text = codes "  " ++ flush_right (width_of heading) text

-- a heading, below which its numbers stand
abbrev pub heading_text : List ℕ → List ℕ
heading_text heading = column_text heading heading

-- the line of headings, the first of which says what each line is about
unfoldable pub headings_text : List ℕ → List (List ℕ) → List ℕ
headings_text label headings = flush_right 8 label ++ flat_map heading_text headings ++ codes "\n"

-- a number below its heading, where there are both
abbrev pub number_below : Option (List ℕ) → Option Number → List ℕ
number_below (Some heading) (Some number) = column_text heading (number_text number)
number_below _ _ = []

abbrev pub number_at : List (List ℕ) → List Number → ℕ → List ℕ
number_at headings row place = number_below (slice_get headings place) (slice_get row place)

-- the line of a row: a number below each heading
unfoldable pub row_text : List (List ℕ) → List ℕ → List Number → List ℕ
row_text headings label row =
    flush_right 8 label ++ flat_map (number_at headings row) (below (length headings)) ++ codes "\n"

-- what stands before a row of a summary
abbrev pub summary_label : ℕ → List ℕ
summary_label place = if place == 0 then codes "least" else (if place == 1 then codes "median" else codes "greatest")

-- what stands before a row: the number of its unit, or which of three rows of a summary it is
abbrev pub label_text : Bool → ℕ → List ℕ
label_text false place = decimal place
label_text true place = summary_label place

abbrev pub line_text : List (List ℕ) → Bool → List (List Number) → ℕ → List ℕ
line_text headings summarized rows place =
    row_text headings (label_text summarized place) (slice_index_or rows place [])

-- the headings, and a line for each row
unfoldable pub lines_text : List ℕ → List (List ℕ) → Bool → List (List Number) → List ℕ
lines_text label headings summarized rows =
    headings_text label headings ++ flat_map (line_text headings summarized rows) (below (length rows))

-- a table has a line for each row where there are at most sixteen, or where all are asked for
abbrev pub shows_each : Bool → List (List Number) → Bool
shows_each all rows = nat_le (length rows) 16 || all

-- a table with these headings, of which `label` is that of the first column: then it has a line for each row, and else
-- one for each row of their summary
pub record IsTable (label : List ℕ) (headings : List (List ℕ)) (all : Bool) (rows : List (List Number)) (text : List ℕ)
    : Type 0 where
  pub each : shows_each all rows ≡ true → text ≡ lines_text label headings false rows
  pub three : shows_each all rows ≡ false
      → (summary : List (List Number)) × IsSummary rows summary × (text ≡ lines_text label headings true summary)

-- what the headings of a layout say
abbrev pub headings_of : TableLayout → List (List ℕ)
headings_of layout = map (λ heading. heading.now) layout.headings.now

-- a table of this layout
abbrev pub IsTableOf : TableLayout → List (List Number) → List ℕ → Type 0
IsTableOf layout rows text = IsTable layout.label.now (headings_of layout) layout.all rows text

-- a layout with these headings
pub record IsLayout (label : List ℕ) (headings : List (List ℕ)) (all : Bool) (layout : TableLayout) : Type 0 where
  pub label_is : layout.label.now ≡ label
  pub headings_are : headings_of layout ≡ headings
  pub all_is : layout.all ≡ all

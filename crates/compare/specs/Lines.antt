-- The lines of a comparison.
--     cells_text layout base measure run      the value of a run, and its change from the first one
--     line_text layout base others measure      the line of a measure
--     lines_text layout base others tails      a line for each, and one for p99
use Rattle.std.specs.Prelude.{ℕ, List, ◌++◌, codes, flat_map, Option}
use Rattle.statistics.specs.Values.{RunStats}
use Rattle.compare.specs.Cells.{cell_of}
use Rattle.compare.specs.Measures.{value_of, decimals_of, label_of}
use Rattle.compare.specs.Texts.{value_text, change_text, cell_text, label_text}
use Rattle.compare.specs.Tails.{tails_text}
use Rattle.compare.specs.declared.compared.TheConstants.{FIRST_MEASURES, LAST_MEASURES}
use Rattle.compare.specs.declared.layout.Layout.{Layout}
use Rattle.compare.specs.declared.compared.Measure.{Measure}

-- the value of a run, and its change from the first one
unfoldable pub cells_text : Layout → RunStats → Measure → RunStats → List ℕ
cells_text layout base measure run =
    cell_text layout 12 (value_text layout (decimals_of measure) (cell_of measure base run).value)
    ++ cell_text layout 10 (change_text layout (cell_of measure base run).change)

-- the label of a measure, and the value of the first run
unfoldable pub beginning_text : Layout → RunStats → Measure → List ℕ
beginning_text layout base measure =
    label_text layout (label_of measure)
    ++ cell_text layout 12 (value_text layout (decimals_of measure) (value_of measure base))

-- the line of a measure
unfoldable pub line_text : Layout → RunStats → List RunStats → Measure → List ℕ
line_text layout base others measure =
    beginning_text layout base measure ++ flat_map (cells_text layout base measure) others ++ codes "\n"

-- a line for each measure, and one for p99 where it is known of each run
unfoldable pub lines_text : Layout → RunStats → List RunStats → List (Option ℕ) → List ℕ
lines_text layout base others tails =
    flat_map (line_text layout base others) FIRST_MEASURES ++ tails_text layout tails
    ++ flat_map (line_text layout base others) LAST_MEASURES

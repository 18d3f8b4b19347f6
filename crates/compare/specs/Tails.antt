-- The line of the 99th percentile of read latency.
--     tail_value tail      the p99 of a run, in billionths
--     tail_cells_text layout base tail      the p99 of a run, and its change from the first one
--     tails_text layout tails      the line of all runs
use Rattle.std.specs.Prelude.{ℕ, List, [], ◌∷◌, ◌++◌, codes, flat_map, Option, Some, None}
use Rattle.compare.specs.Changes.{change_of}
use Rattle.compare.specs.Quotients.{quotient}
use Rattle.compare.specs.Texts.{value_text, change_text, cell_text, label_text}
use Rattle.compare.specs.declared.layout.Layout.{Layout}
use Rattle.compare.specs.declared.compared.Decimals.TheVariants.{Zero}

-- the p99 of a run, in billionths, where one of its reads was answered
abbrev pub tail_value : Option ℕ → Option ℕ
tail_value (Some cycles) = quotient cycles 1
tail_value None = None

-- the p99 of a run
abbrev pub tail_text : Layout → Option ℕ → List ℕ
tail_text layout tail = cell_text layout 12 (value_text layout Zero (tail_value tail))

-- the p99 of a run, and its change from the first one
unfoldable pub tail_cells_text : Layout → Option ℕ → Option ℕ → List ℕ
tail_cells_text layout base tail =
    tail_text layout tail ++ cell_text layout 10 (change_text layout (change_of (tail_value base) (tail_value tail)))

-- the line of the first run and of others
unfoldable pub tail_line_text : Layout → Option ℕ → List (Option ℕ) → List ℕ
tail_line_text layout base others =
    label_text layout (codes "read latency p99") ++ tail_text layout base
    ++ flat_map (tail_cells_text layout base) others ++ codes "\n"

-- the line of all runs; nothing for none
abbrev pub tails_text : Layout → List (Option ℕ) → List ℕ
tails_text layout [] = []
tails_text layout (base ∷ others) = tail_line_text layout base others

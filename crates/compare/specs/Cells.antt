-- What a run has of a measure, and how that has changed.
--     cell_of measure base run      the value, and its change from the first run
use Rattle.std.specs.Prelude.{ℕ, ◌*◌, ◌==◌, Some, None, if◌then◌else◌}
use Rattle.statistics.specs.Values.{RunStats}
use Rattle.compare.specs.Changes.{change_of}
use Rattle.compare.specs.Cores.{most}
use Rattle.compare.specs.Measures.{value_of}
use Rattle.compare.specs.declared.cells.Cell.{Cell}
use Rattle.compare.specs.declared.changes.Change.{Change}
use Rattle.compare.specs.declared.changes.Change.TheVariants.{Rise, Fall}
use Rattle.compare.specs.declared.cores.Direction.{Direction}
use Rattle.compare.specs.declared.cores.Direction.TheVariants.{Gained, Lost}
use Rattle.compare.specs.declared.cores.Extreme.{Extreme}
use Rattle.compare.specs.declared.compared.Measure.{Measure}
use Rattle.compare.specs.declared.compared.Measure.TheVariants.{MostGained, MostLost}

abbrev pub change_towards : Direction → ℕ → Change
change_towards Gained tenths = Rise tenths
change_towards Lost tenths = Fall tenths

-- the number of a core, and its change; nothing where no core changed
abbrev pub extreme_cell : Direction → Extreme → Cell
extreme_cell direction found =
    if found.tenths == 0 then record { value = None; change = None }
    else record { value = Some (1000000000 * found.core); change = Some (change_towards direction found.tenths) }

-- what a run has of a measure, and how that has changed
abbrev pub measured_cell : Measure → RunStats → RunStats → Cell
measured_cell measure base run =
    record { value = value_of measure run; change = change_of (value_of measure base) (value_of measure run) }

-- what a run has of a measure, and how that has changed; of a core that changed most, its number and its own change
unfoldable pub cell_of : Measure → RunStats → RunStats → Cell
cell_of MostGained base run = extreme_cell Gained (most Gained base run)
cell_of MostLost base run = extreme_cell Lost (most Lost base run)
cell_of measure base run = measured_cell measure base run

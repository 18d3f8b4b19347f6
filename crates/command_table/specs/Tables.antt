-- Tables of commands, cycle by cycle.
--     IsRising table      no row has an earlier cycle than one before it
--     rows_in cycle table      the rows of one cycle
--     rows_up_to cycle table      the rows up to a cycle
--     rows_after cycle table      the rows after a cycle
--     all_rows lists      the rows of all lists, one list after another
--     HaveSameCycles table other      two tables have the same rows in each cycle, in the same order
--     by_cycle rows      rows by cycle, those of a cycle in the order in which they stand
--     table_of lists      the rows of some lists as one table: by cycle, and those of a cycle by their list
use Rattle.std.specs.Prelude.{◌≡◌, ℕ, ◌≤◌, ◌==◌, nat_lt, nat_le, List, [], ◌∷◌, filter, flat_map, if◌then◌else◌}
use Rattle.std.specs.List.{AllPairs}
use Rattle.sim_base.specs.declared.command.IssuedCommand.{IssuedCommand}

-- no row has an earlier cycle than one before it
abbrev pub IsRising : List IssuedCommand → Type 0
IsRising table = AllPairs (λ a b. a.cycle ≤ b.cycle) table

-- the rows of one cycle
abbrev pub rows_in : ℕ → List IssuedCommand → List IssuedCommand
rows_in cycle table = filter (λ row. row.cycle == cycle) table

-- the rows up to a cycle
abbrev pub rows_up_to : ℕ → List IssuedCommand → List IssuedCommand
rows_up_to cycle table = filter (λ row. nat_le row.cycle cycle) table

-- the rows after a cycle
abbrev pub rows_after : ℕ → List IssuedCommand → List IssuedCommand
rows_after cycle table = filter (λ row. nat_lt cycle row.cycle) table

-- two tables have the same rows in each cycle, in the same order
abbrev pub HaveSameCycles : List IssuedCommand → List IssuedCommand → Type 0
HaveSameCycles table other = (cycle : ℕ) → rows_in cycle table ≡ rows_in cycle other

-- a table with one more row, before the first one whose cycle is no earlier
unfoldable pub put : IssuedCommand → List IssuedCommand → List IssuedCommand
put row [] = row ∷ []
put row (first ∷ rest) = if nat_lt first.cycle row.cycle then first ∷ put row rest else row ∷ first ∷ rest

-- rows by cycle, those of a cycle in the order in which they stand
unfoldable pub by_cycle : List IssuedCommand → List IssuedCommand
by_cycle [] = []
by_cycle (row ∷ rows) = put row (by_cycle rows)

-- the rows of all lists, one list after another
abbrev pub all_rows : List (List IssuedCommand) → List IssuedCommand
all_rows lists = flat_map (λ rows. rows) lists

-- the rows of some lists as one table: by cycle, and those of a cycle by their list
abbrev pub table_of : List (List IssuedCommand) → List IssuedCommand
table_of lists = by_cycle (all_rows lists)

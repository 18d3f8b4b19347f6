-- The tables of a run, as words name them.
--     no_tables      none of them
--     with_table tables name      these tables and one more
--     tables_of text      those that a text lists
use Rattle.std.specs.Prelude.{ℕ, Bool, true, false, List, fold, codes, ◌==◌, Option, Some, None, if◌then◌else◌}
use Rattle.std.specs.List.{slice_split}
use Rattle.std.specs.Str.{bytes_eq}
use Rattle.statistics.specs.declared.tables.Tables.{Tables}

abbrev pub no_tables : Tables
no_tables = record { commands = false; stats = false; last = false; requests = false }

-- these tables, unless one was there already
abbrev pub unless_there : Bool → Tables → Option Tables
unless_there there tables = if there then None else Some tables

-- these tables and one more, by its name; none, where the name is no table's or is there already
abbrev pub with_table : Tables → List ℕ → Option Tables
with_table tables name =
    if bytes_eq name (codes "commands") then unless_there tables.commands (record tables { commands = true })
    else if bytes_eq name (codes "stats") then unless_there tables.stats (record tables { stats = true })
    else if bytes_eq name (codes "final") then unless_there tables.last (record tables { last = true })
    else if bytes_eq name (codes "requests") then unless_there tables.requests (record tables { requests = true })
    else None

abbrev pub and_table : Option Tables → List ℕ → Option Tables
and_table None name = None
and_table (Some tables) name = with_table tables name

-- the tables that a text lists: their names, joined by commas, each at most once; a text with no name lists none
unfoldable pub tables_of : List ℕ → Option Tables
tables_of text = fold and_table (Some no_tables) (slice_split (λ byte. byte == 44) text)

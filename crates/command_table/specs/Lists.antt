-- What a list of commands holds, however it is kept.
--     rows_of kept      its commands
--     stored_row row      a row, as a list stores it
--     stored_rows rows      rows one after another, as a list stores them
use Rattle.std.specs.Prelude.{List}
use Rattle.sim_base.specs.declared.command.IssuedCommand.{IssuedCommand}
use Rattle.command_table.specs.declared.list.Storage.{Storage}
use Rattle.command_table.specs.declared.list.Storage.TheVariants.{Compact, Whole}
use Rattle.command_table.specs.declared.stored.StoredRow.{StoredRow}
use Rattle.command_table.specs.declared.stored.StoredRow.TheVariants as one
use Rattle.command_table.specs.declared.stored.StoredRows.{StoredRows}
use Rattle.command_table.specs.declared.stored.StoredRows.TheVariants as several

-- the commands of a list, in few bytes or as they are
abbrev pub rows_of : Storage → List IssuedCommand
rows_of (Compact rows) = rows.items
rows_of (Whole rows) = rows.items

-- a row, in few bytes or as it is
abbrev pub stored_row : StoredRow → IssuedCommand
stored_row (one.Compact row) = row.now
stored_row (one.Whole row) = row.now

-- rows one after another, in few bytes or as they are
abbrev pub stored_rows : StoredRows → List IssuedCommand
stored_rows (several.Compact rows) = rows.now
stored_rows (several.Whole rows) = rows.now

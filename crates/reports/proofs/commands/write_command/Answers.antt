use Rattle.std.proofs.Common.{◌≡◌, drop, rules}
use Rattle.command_table.specs.Rows.{row_of}
use Rattle.reports.specs.Commands.{command_fields}
use Rattle.reports.specs.Rows.{fields_text}
use Rattle.reports.proofs.RowLemmas.{line-row}
use Rattle.reports.proofs.commands.write_command.Goals as goal

pub returns : goal.returns
returns g c =
    let text : drop c.put_cycle-start.result c.put_cycle-start.new.line ≡ fields_text (command_fields c.args.ranks (row_of c.args.row.now)) = search rules in
    rw (text, line-row) at c.write_row.ensures

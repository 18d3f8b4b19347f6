use Rattle.std.proofs.Common.{◌∷◌, [], ap, ◌∙◌}
use Rattle.command_table.specs.Tables.{table_of}
use Rattle.command_table.proofs.Merging.{own-table}
use Rattle.command_table.proofs.table.CommandTable.of_rows.Goals as goal

pub returns : goal.returns
returns c =
    ap table_of c.in_ok-vec.ensures.items ∙ ap (λ rows. table_of (rows ∷ [])) c.in_ok-list.ensures ∙ own-table c.args.rows.now c.requires.rising

use Rattle.std.proofs.Common.{ap, fold, map, Some, lit<, ◌∙◌}
use Rattle.std.proofs.lemmas.Iterator.Consumers.{map_from_collect}
use Rattle.std.proofs.lemmas.Iterator.Splits.{YieldsList-from_str_split}
use Rattle.command_line.specs.Tables.{no_tables, and_table, tables_of}
use Rattle.command_line.proofs.tables.read_tables.Goals as goal

pub returns : goal.returns
unfolding tables_of
returns c =
    c.tables_named.ensures
    ∙ ap (λ names. fold and_table (Some no_tables) (map (λ name. name.now) names)) c.deref.ensures.value
    ∙ ap (fold and_table (Some no_tables)) (rw c.in_ok-names.was at (map_from_collect c.collect.result c.collect.ensures.ran (YieldsList-from_str_split 44 c.args.text.now (lit< tt) c.split.ensures.text c.split.ensures.has_more c.split.ensures.pattern)))

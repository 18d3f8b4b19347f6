-- The law, as it is proved.
use Rattle.laws.proofs.Tabled.{tables_are_ordered, tables_are_legal, tables_are_refreshed}
use Rattle.laws.proofs.commands.tables_keep_the_rules.Goals as goal

pub returns : goal.returns
returns c = record { ordered = tables_are_ordered; legal = tables_are_legal; refreshed = tables_are_refreshed }

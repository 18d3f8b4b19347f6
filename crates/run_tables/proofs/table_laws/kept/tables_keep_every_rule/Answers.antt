-- The law, as it is proved.
use Rattle.run_tables.proofs.TableLaws.Unbroken.{tables_keep_every_rule}
use Rattle.run_tables.proofs.table_laws.kept.tables_keep_every_rule.Goals as goal

pub returns : goal.returns
returns c = tables_keep_every_rule

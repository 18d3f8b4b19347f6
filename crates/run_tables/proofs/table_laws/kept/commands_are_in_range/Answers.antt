-- The law, as it is proved.
use Rattle.run_tables.proofs.TableLaws.InRange.{commands_are_in_range}
use Rattle.run_tables.proofs.table_laws.kept.commands_are_in_range.Goals as goal

pub returns : goal.returns
returns c = commands_are_in_range

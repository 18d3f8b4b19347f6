-- The law, as it is proved.
use Rattle.run_tables.proofs.TableLaws.Verdicts.{runs-legal}
use Rattle.run_tables.proofs.table_laws.legal.tables_of_runs_are_legal.Goals as goal

pub returns : goal.returns
returns c = runs-legal

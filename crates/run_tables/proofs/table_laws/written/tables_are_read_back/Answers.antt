-- The law, as it is proved.
use Rattle.run_tables.proofs.TableLaws.RowsBack.{unmarked, records-read}
use Rattle.run_tables.proofs.TableLaws.FieldsBack.{header-read, rows-back}
use Rattle.run_tables.proofs.TableLaws.Verdicts.{rows-legal}
use Rattle.run_tables.proofs.table_laws.written.tables_are_read_back.Goals as goal

pub returns-clause-unmarked : goal.returns-clause-unmarked
returns-clause-unmarked c s rows = unmarked s.ranks rows

pub returns-clause-records : goal.returns-clause-records
returns-clause-records c s rows = records-read s.ranks rows

pub returns-clause-header : goal.returns-clause-header
returns-clause-header c s = header-read s.ranks

pub returns-clause-rows : goal.returns-clause-rows
returns-clause-rows c = rows-back

pub returns-clause-legal : goal.returns-clause-legal
returns-clause-legal c = rows-legal

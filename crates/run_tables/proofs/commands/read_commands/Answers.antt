-- What is read of a table is what it is of.
use Rattle.rule_check.specs.Verdict.{records_of}
use Rattle.run_tables.proofs.Refused.{inverse, row_count, rows_rise}
use Rattle.run_tables.proofs.commands.read_commands.Goals as goal

pub returns-clause-inverse : goal.returns-clause-inverse
returns-clause-inverse c rows table = inverse (records_of c.args.table.now) rows c.read_rows.result c.read_rows.ensures.read c.read_rows.ensures.refused table

pub returns-clause-rows : goal.returns-clause-rows
returns-clause-rows c = row_count (records_of c.args.table.now) c.read_rows.result c.read_rows.ensures.read

pub returns-clause-rising : goal.returns-clause-rising
returns-clause-rising c = rows_rise (records_of c.args.table.now) c.read_rows.result c.read_rows.ensures.read

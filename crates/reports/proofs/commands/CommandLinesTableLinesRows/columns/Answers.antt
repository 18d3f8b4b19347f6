use Rattle.std.proofs.Common.{arith}
use Rattle.reports.specs.Commands.{header}
use Rattle.reports.proofs.RowLemmas.{line-row}
use Rattle.reports.proofs.commands.CommandLinesTableLinesRows.columns.Goals as goal

pub returns-then-self-gt1-clause-names : goal.returns-then-self-gt1-clause-names
returns-then-self-gt1-clause-names c = rw (← line-row (header c.args.self.now.ranks)) (grind arith)

pub returns-else-self-gt1-clause-names : goal.returns-else-self-gt1-clause-names
returns-else-self-gt1-clause-names c = rw (← line-row (header c.args.self.now.ranks)) (grind arith)

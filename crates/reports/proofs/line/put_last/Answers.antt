use Rattle.std.proofs.Common.{decimal}
use Rattle.reports.proofs.LineLemmas.{nothing_behind, last_field}
use Rattle.reports.proofs.line.put_last.Goals as goal

pub returns-in-Some-clause-text : goal.returns-in-Some-clause-text
returns-in-Some-clause-text c = rw c.in-Some.is (last_field _ (decimal c.in-Some.number) c.args.line.now c.told-line c.put_digits.ensures.text)

pub returns-in-None-clause-text : goal.returns-in-None-clause-text
returns-in-None-clause-text c = rw c.in-None.is (nothing_behind c.args.line.now c.told-line)

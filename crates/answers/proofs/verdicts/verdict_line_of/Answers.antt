use Rattle.std.proofs.Common.{append_assoc}
use Rattle.answers.proofs.verdicts.verdict_line_of.Goals as goal

pub returns-in_ok-format-in-Broken-clause-line : goal.returns-in_ok-format-in-Broken-clause-line
returns-in_ok-format-in-Broken-clause-line c = rw c.in-Broken.is (simp append_assoc c.in_ok-format-in-Broken.ensures.ok)

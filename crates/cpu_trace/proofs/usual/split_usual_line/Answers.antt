use Rattle.cpu_trace.proofs.UsualLines.{two-usual, three-usual, two-shorter, three-shorter}
use Rattle.cpu_trace.proofs.usual.split_usual_line.Goals as goal

pub returns-in-Some : goal.returns-in-Some
returns-in-Some c = (
  two-usual _ _ _ _ _ _ _ c.in_ok-plain.ensures c.in_ok-behind.ensures c.in_ok-read.ensures c.in-Some.ensures,
  two-shorter _ _ _ _ _ _ _ c.in_ok-plain.ensures c.in_ok-behind.ensures c.in_ok-read.ensures c.in-Some.ensures,
)

pub returns : goal.returns
returns c = (
  three-usual _ _ _ _ _ _ _ _ _ _ c.in_ok-plain.ensures c.in_ok-behind.ensures c.in_ok-read.ensures c.in_ok-behind-2.ensures c.in_ok-write.ensures c.in_ok-rest.ensures,
  three-shorter _ _ _ _ _ _ _ _ _ _ c.in_ok-plain.ensures c.in_ok-behind.ensures c.in_ok-read.ensures c.in_ok-behind-2.ensures c.in_ok-write.ensures c.in_ok-rest.ensures,
)

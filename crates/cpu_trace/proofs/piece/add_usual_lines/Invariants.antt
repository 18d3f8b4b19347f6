use Rattle.std.proofs.Common.{length, Some}
use Rattle.cpu_trace.specs.Reading.{IsReadUpTo}
use Rattle.cpu_trace.proofs.piece.add_usual_lines.Given as goal

abbrev pub invariant-loop-line : goal.invariant-loop-line
invariant-loop-line l = IsReadUpTo l.text (Some l.fn.entries) l.lines l.rest (Some l.entries)

abbrev pub decreases-loop-line : goal.decreases-loop-line
decreases-loop-line l = length l.rest

use Rattle.std.proofs.Common.{length, [], Some}
use Rattle.cpu_trace.specs.Reading.{IsReadUpTo}
use Rattle.cpu_trace.proofs.piece.read_piece.Given as goal

abbrev pub invariant-loop-kept : goal.invariant-loop-kept
invariant-loop-kept l = IsReadUpTo l.piece (Some []) l.lines l.rest l.kept

abbrev pub decreases-loop-kept : goal.decreases-loop-kept
decreases-loop-kept l = length l.rest

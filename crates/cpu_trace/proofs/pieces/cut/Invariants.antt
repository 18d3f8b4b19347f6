-- The lines of the pieces so far, and then those of the rest, are the lines of the text.
use Rattle.std.proofs.Common.{◌≡◌, ◌++◌, length}
use Rattle.sim_base.specs.TraceText.{lines_of}
use Rattle.cpu_trace.specs.Pieces.{lines_of_pieces}
use Rattle.cpu_trace.proofs.pieces.cut.Given as goal

abbrev pub invariant-loop-piece : goal.invariant-loop-piece
invariant-loop-piece l = lines_of l.text ≡ lines_of_pieces l.pieces.items ++ lines_of l.rest

abbrev pub decreases-loop-piece : goal.decreases-loop-piece
decreases-loop-piece l = length l.rest

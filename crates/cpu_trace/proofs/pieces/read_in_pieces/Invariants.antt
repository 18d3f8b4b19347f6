-- What was read so far is what there is of some lines, and these are followed by the lines of the pieces that are left.
use Rattle.std.proofs.Common.{◌≡◌, ℕ, ◌++◌, List, length, Bor}
use Rattle.std.specs.Vec.Iter.{into_iter_items, into_iter_len}
use Rattle.sim_base.specs.TraceText.{lines_of}
use Rattle.cpu_trace.specs.Pieces.{lines_of_pieces}
use Rattle.cpu_trace.specs.Reading.{IsReadingOf}
use Rattle.cpu_trace.proofs.Behind.{AreRead}
use Rattle.cpu_trace.proofs.pieces.read_in_pieces.Given as goal

abbrev pub invariant-loop-reading : goal.invariant-loop-reading
invariant-loop-reading g l =
    (lines : List (List ℕ))
    × (pieces : List (Bor (List ℕ)))
    × (lines_of l.text ≡ lines ++ lines_of_pieces pieces)
    × IsReadingOf lines l.all
    × AreRead pieces (into_iter_items l.reading-iterator)
    × (into_iter_len l.reading-iterator ≡ length (into_iter_items l.reading-iterator))

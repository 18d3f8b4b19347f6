-- What was written, and the texts that are put together and not yet written, are the rows of the pieces so far.
use Rattle.std.proofs.Common.{◌≡◌, ℕ, List, ◌++◌, ◌≤◌, ◌-◌, length, take, flat_map}
use Rattle.std.specs.Io.KnownBytes.{Appends}
use Rattle.reports.specs.Rows.{all_of}
use Rattle.reports.proofs.pieces.write_rounds.Given as goal

abbrev pub invariant-loop-done : goal.invariant-loop-done
invariant-loop-done g l =
    (l.done ≤ length l.pieces)
    × (written : List ℕ) × Appends (g.W.Write.contents l.fn.writer) (g.W.Write.contents l.writer) written
    × (written ++ all_of l.texts.items ≡ flat_map (g.T.TableLines.lines l.of) (take l.done l.pieces))

abbrev pub decreases-loop-done : goal.decreases-loop-done
decreases-loop-done g l = length l.pieces - l.done

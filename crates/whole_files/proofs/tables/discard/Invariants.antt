-- The tables from a place on are gone.
use Rattle.std.proofs.Common.{◌≤◌, length, map, drop}
use Rattle.whole_files.specs.Tables.{from_paths, AreGone, SameOutside}
use Rattle.whole_files.specs.Planned.{planned_of}
use Rattle.whole_files.proofs.tables.discard.Given as goal

abbrev pub invariant-loop-left : goal.invariant-loop-left
invariant-loop-left g l = record {
  within : l.left ≤ length l.planned;
  gone : g.F.FileSet.tells → AreGone (map planned_of (drop l.left l.planned)) (g.F.FileSet.held l.files);
  others : g.F.FileSet.tells → SameOutside (from_paths (map planned_of l.planned)) (g.F.FileSet.held l.fn.files) (g.F.FileSet.held l.files);
}

abbrev pub decreases-loop-left : goal.decreases-loop-left
decreases-loop-left g l = l.left

-- The tables so far got their places, and the others wait.
use Rattle.std.proofs.Common.{◌≡◌, ◌<◌, true, false, map, take, drop}
use Rattle.std.specs.List.{AllByRecursion as Each}
use Rattle.whole_files.specs.Files.{SameFiles}
use Rattle.whole_files.specs.Tables.{paths_of, IsMoved, IsWaiting, SameOutside}
use Rattle.whole_files.specs.Planned.{planned_of}
use Rattle.whole_files.proofs.tables.place.Given as goal

abbrev pub invariant-loop-table : goal.invariant-loop-table
invariant-loop-table g l = record {
  moved : g.F.FileSet.tells → Each (IsMoved (g.F.FileSet.held l.fn.files) (g.F.FileSet.held l.files)) (map planned_of (take l.table-index l.planned));
  waits : g.F.FileSet.tells → Each (IsWaiting (g.F.FileSet.held l.fn.files) (g.F.FileSet.held l.files)) (map planned_of (drop l.table-index l.planned));
  others : g.F.FileSet.tells → SameOutside (paths_of (map planned_of l.planned)) (g.F.FileSet.held l.fn.files) (g.F.FileSet.held l.files);
  unmoved : l.placed ≡ false → g.F.FileSet.tells → SameFiles (g.F.FileSet.held l.fn.files) (g.F.FileSet.held l.files);
  begun : l.placed ≡ true → 0 < l.table-index;
  unopened : g.F.FileSet.tells → g.F.FileSet.opened l.files ≡ g.F.FileSet.opened l.fn.files;
}

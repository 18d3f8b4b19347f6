-- The tables so far are whole.
use Rattle.std.proofs.Common.{◌≡◌, ◌++◌, map, take}
use Rattle.whole_files.specs.Tables.{from_paths, AreStaged, SameOutside}
use Rattle.whole_files.specs.Planned.{planned_of}
use Rattle.whole_files.proofs.tables.stage.Given as goal

abbrev pub invariant-loop-table : goal.invariant-loop-table
invariant-loop-table g l = record {
  whole : g.F.FileSet.tells → AreStaged (map planned_of (take l.table-index l.planned)) (g.F.FileSet.held l.files);
  noted : g.F.FileSet.tells → g.F.FileSet.opened l.files ≡ g.F.FileSet.opened l.fn.files ++ from_paths (map planned_of (take l.table-index l.planned));
  others : g.F.FileSet.tells → SameOutside (from_paths (map planned_of l.planned)) (g.F.FileSet.held l.fn.files) (g.F.FileSet.held l.files);
}

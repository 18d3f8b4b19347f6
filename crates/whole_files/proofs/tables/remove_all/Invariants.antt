-- What stood at the paths so far is gone.
use Rattle.std.proofs.Common.{◌≡◌, map, take, string_bytes}
use Rattle.whole_files.specs.Tables.{AreRemoved, SameOutside}
use Rattle.whole_files.proofs.tables.remove_all.Given as goal

abbrev pub invariant-loop-path : goal.invariant-loop-path
invariant-loop-path g l = record {
  removed : g.F.FileSet.tells → AreRemoved (map string_bytes (take l.path-index l.paths)) (g.F.FileSet.held l.files);
  others : g.F.FileSet.tells → SameOutside (map string_bytes l.paths) (g.F.FileSet.held l.fn.files) (g.F.FileSet.held l.files);
  unopened : g.F.FileSet.tells → g.F.FileSet.opened l.files ≡ g.F.FileSet.opened l.fn.files;
}

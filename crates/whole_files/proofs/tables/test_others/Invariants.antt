-- No file has changed.
use Rattle.std.proofs.Common.{◌≡◌}
use Rattle.whole_files.specs.Files.{SameFiles}
use Rattle.whole_files.proofs.tables.test_others.Given as goal

abbrev pub invariant-loop-path : goal.invariant-loop-path
invariant-loop-path g l = record {
  same : g.F.FileSet.tells → SameFiles (g.F.FileSet.held l.fn.files) (g.F.FileSet.held l.files);
  unopened : g.F.FileSet.tells → g.F.FileSet.opened l.files ≡ g.F.FileSet.opened l.fn.files;
}

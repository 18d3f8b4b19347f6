-- The tables so far are those of the folders so far, and no file has changed.
use Rattle.std.proofs.Common.{◌≡◌, length, map, take, Some}
use Rattle.whole_files.specs.Files.{SameFiles}
use Rattle.answers.specs.Answers.{stats_path}
use Rattle.answers.proofs.comparisons.tables_in.Given as goal

abbrev pub invariant-loop-dir : goal.invariant-loop-dir
invariant-loop-dir g l = record {
  texts : g.F.FileSet.tells → map (λ d. g.F.FileSet.held l.fn.files (stats_path d.now)) (take l.dir-index l.dirs) ≡ map (λ t. Some t.bytes.items) l.tables.items;
  count : length l.tables.items ≡ l.dir-index;
  same : g.F.FileSet.tells → SameFiles (g.F.FileSet.held l.fn.files) (g.F.FileSet.held l.files);
  unopened : g.F.FileSet.tells → g.F.FileSet.opened l.files ≡ g.F.FileSet.opened l.fn.files;
}

-- The texts so far are those of the paths so far, and no file has changed.
use Rattle.std.proofs.Common.{◌≡◌, length, map, take, Some}
use Rattle.whole_files.specs.Files.{AreHeld, SameFiles}
use Rattle.program.proofs.runs.read_texts.Given as goal

abbrev pub invariant-loop-path : goal.invariant-loop-path
invariant-loop-path g l = record {
  texts : g.F.FileSet.tells → map (λ p. g.F.FileSet.held l.fn.files p.now) (take l.path-index l.paths) ≡ map (λ t. Some t) l.texts.items;
  each : g.F.FileSet.tells → AreHeld (g.F.FileSet.held l.fn.files) (map (λ p. p.now) l.paths) l.texts.items;
  count : length l.texts.items ≡ l.path-index;
  same : g.F.FileSet.tells → SameFiles (g.F.FileSet.held l.fn.files) (g.F.FileSet.held l.files);
  unopened : g.F.FileSet.tells → g.F.FileSet.opened l.files ≡ g.F.FileSet.opened l.fn.files;
}

-- The percentiles so far are those of the folders so far, and no file has changed.
use Rattle.std.proofs.Common.{◌≡◌, length}
use Rattle.whole_files.specs.Files.{SameFiles}
use Rattle.answers.proofs.RequestFacts.{TailsSoFar}
use Rattle.answers.proofs.comparisons.tails_in.Given as goal

abbrev pub invariant-loop-place : goal.invariant-loop-place
invariant-loop-place g l = record {
  count : length l.tails.items ≡ l.place;
  so_far : g.F.FileSet.tells → TailsSoFar (λ d. d.now) (g.F.FileSet.held l.fn.files) l.dirs l.runs l.tails.items;
  same : g.F.FileSet.tells → SameFiles (g.F.FileSet.held l.fn.files) (g.F.FileSet.held l.files);
  unopened : g.F.FileSet.tells → g.F.FileSet.opened l.files ≡ g.F.FileSet.opened l.fn.files;
}

-- Any text so far.
use Rattle.measures.specs.Texts.{Grows}
use Rattle.request_pictures.proofs.histograms.put_bins.Given as goal

abbrev pub invariant-loop-place : goal.invariant-loop-place
invariant-loop-place l = Grows l.fn.out.text l.out.text

-- Any text so far.
use Rattle.measures.specs.Texts.{Grows}
use Rattle.request_pictures.proofs.histograms.put_each.Given as goal

abbrev pub invariant-loop-core : goal.invariant-loop-core
invariant-loop-core l = Grows l.fn.out.text l.out.text

-- Any text so far.
use Rattle.measures.specs.Texts.{Grows}
use Rattle.request_pictures.proofs.trend.put_line.Given as goal

abbrev pub invariant-loop-place : goal.invariant-loop-place
invariant-loop-place l = Grows l.fn.out.text l.out.text

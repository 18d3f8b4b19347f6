-- Any text so far.
use Rattle.measures.specs.Texts.{Grows}
use Rattle.request_pictures.proofs.drawing.axes.put_cycle_ticks.Given as goal

abbrev pub invariant-loop-tick : goal.invariant-loop-tick
invariant-loop-tick l = Grows l.fn.out l.out

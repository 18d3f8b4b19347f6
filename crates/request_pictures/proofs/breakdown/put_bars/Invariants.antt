-- Any text so far.
use Rattle.measures.specs.Texts.{Grows}
use Rattle.request_pictures.proofs.breakdown.put_bars.Given as goal

abbrev pub invariant-loop-channel : goal.invariant-loop-channel
invariant-loop-channel l = Grows l.fn.out.text l.out.text

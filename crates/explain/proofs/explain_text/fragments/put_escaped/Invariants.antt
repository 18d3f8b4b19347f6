-- Any text so far.
use Rattle.measures.specs.Texts.{Grows}
use Rattle.explain.proofs.explain_text.fragments.put_escaped.Given as goal

abbrev pub invariant-loop-shown : goal.invariant-loop-shown
invariant-loop-shown l = Grows l.fn.out l.out

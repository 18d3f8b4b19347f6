-- Any text so far.
use Rattle.measures.specs.Texts.{Grows}
use Rattle.explain.proofs.explain_text.fragments.put_shown.Given as goal

abbrev pub invariant-loop-place : goal.invariant-loop-place
invariant-loop-place l = Grows l.fn.out l.out

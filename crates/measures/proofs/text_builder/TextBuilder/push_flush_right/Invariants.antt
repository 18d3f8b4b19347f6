-- A blank for each place so far, and no more than there are to be.
use Rattle.std.proofs.Common.{◌-◌, ◌≤◌, length}
use Rattle.measures.proofs.Texts.{PutsBlanks}
use Rattle.measures.proofs.text_builder.TextBuilder.push_flush_right.Given as goal

abbrev pub invariant-loop : goal.invariant-loop
invariant-loop l = PutsBlanks (l.counter - length l.words) l.fn.self l.self × (l.counter - length l.words ≤ l.width - length l.words)

-- The form up to the pieces so far, and a rest that is text.
use denote.Shadow.{shadow}
use denote.Text.{Utf8}
use Rattle.std.proofs.Common.{drop}
use Rattle.measures.specs.Texts.{Puts}
use Rattle.measures.proofs.Filled.{Leads}
use Rattle.measures.proofs.text_builder.TextBuilder.fill.Given as goal

abbrev pub invariant-loop-piece : goal.invariant-loop-piece
invariant-loop-piece g l = Puts (Leads g.P.Append.appends l.fn.form l.pieces l.rest (drop l.piece-index l.pieces)) l.fn.self l.self × shadow (Utf8 l.rest)

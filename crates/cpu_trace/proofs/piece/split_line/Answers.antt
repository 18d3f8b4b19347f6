use Rattle.std.proofs.Common.{◌≡◌, ◌<◌, length, drop, refl, sym, ◌∙◌, arith}
use Rattle.std.proofs.lemmas.Bool.{eqb-true, eqb-false}
use Rattle.std.proofs.lemmas.List.{take_rest}
use Rattle.cpu_trace.proofs.ByLine.{line_len, lines_of-last, lines_of-first}
use Rattle.cpu_trace.proofs.piece.split_line.Goals as goal

pub returns-then-is_empty-clause-lines : goal.returns-then-is_empty-clause-lines
returns-then-is_empty-clause-lines c =
    let text = c.args.text.now in
    let behind : c.split_at.result.1.now ≡ drop (line_len text) text = rw (c.split_at.ensures.back, c.line_len.ensures.value) refl in
    let none = eqb-true _ _ (sym c.is_empty.ensures ∙ c.if-is_empty.true) in
    rw (c.split_at.ensures.front, c.line_len.ensures.value) (lines_of-last text (rw behind at none))

pub returns-else-is_empty-clause-lines : goal.returns-else-is_empty-clause-lines
returns-else-is_empty-clause-lines c =
    let text = c.args.text.now in
    let behind : c.split_at.result.1.now ≡ drop (line_len text) text = rw (c.split_at.ensures.back, c.line_len.ensures.value) refl in
    let some : 0 < length c.split_at.result.1.now = omega (arith, eqb-false _ _ (sym c.is_empty.ensures ∙ c.if-is_empty.false)) in
    rw (take_rest c.split_at.result.1.now 1, c.split_at.ensures.front, c.split_at.ensures.back, c.line_len.ensures.value) (lines_of-first text (rw behind at some))

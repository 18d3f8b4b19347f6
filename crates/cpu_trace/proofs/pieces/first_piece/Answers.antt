use Rattle.std.proofs.Common.{◌≡◌, ◌+◌, ◌<◌, length, drop, refl, sym, ◌∙◌, arith}
use Rattle.std.proofs.lemmas.Bool.{eqb-false}
use Rattle.std.proofs.lemmas.List.{take_rest}
use Rattle.cpu_trace.proofs.ByLine.{line_len, at_line_feed}
use Rattle.cpu_trace.proofs.pieces.first_piece.Goals as goal

pub returns : goal.returns
returns c =
    let text = c.args.text.now in
    let size = c.args.size in
    let len : c.line_len.result ≡ line_len (drop size text) = rw (take_rest text size) at c.line_len.ensures.value in
    let behind : c.split_at.result.1.now ≡ drop (size + line_len (drop size text)) text = rw (c.split_at.ensures.back, len) refl in
    let some : 0 < length c.split_at.result.1.now = omega (arith, eqb-false _ _ (sym c.is_empty.ensures ∙ c.if-is_empty.false)) in
    rw (take_rest c.split_at.result.1.now 1, c.split_at.ensures.front, c.split_at.ensures.back, len) (at_line_feed text size (rw behind at some))

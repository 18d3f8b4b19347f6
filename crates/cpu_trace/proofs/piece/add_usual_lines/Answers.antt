use Rattle.std.proofs.Common.{◌^◌, ◌≤◌, ◌++◌, length, length-append, Some, sym, ap, ◌∙◌, arith}
use Rattle.cpu_trace.specs.Lines.{entries_of}
use Rattle.cpu_trace.proofs.Kept.{kept-short}
use Rattle.cpu_trace.proofs.ByLine.{IsReadUpTo-line}
use Rattle.cpu_trace.proofs.piece.add_usual_lines.Goals as goal

pub loop-line-preserved : goal.loop-line-preserved
loop-line-preserved c =
    let line = c.in-Some.ensures.0 in
    let more = entries_of c.in-Some.line in
    let short : length (c.loop-line.entries ++ more) ≤ 2 ^ 62 = omega (arith, c.has_room.ensures.0 c.if-not-has_room.false, length-append c.loop-line.entries more) in
    IsReadUpTo-line _ _ _ _ _ line.line _ _ more c.loop-line.invariant line.parts line.has_numbers (ap Some c.in_ok-add_line.ensures ∙ sym (kept-short (c.loop-line.entries ++ more) short)) c.in-Some.ensures.1

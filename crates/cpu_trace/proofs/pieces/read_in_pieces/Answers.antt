use Rattle.std.proofs.Common.{◌++◌, length, sym, ap, ◌∙◌, subst, arith}
use Rattle.cpu_trace.specs.Reading.{IsReadingOf, IsUnreadOf}
use Rattle.cpu_trace.proofs.Behind.{IsNextRead-first, few_lines, all_read, IsUnreadOf-before}
use Rattle.cpu_trace.proofs.pieces.read_in_pieces.Goals as goal

pub followed_by-requires : goal.followed_by-requires
followed_by-requires g c =
    let at = c.loop-reading.invariant in
    let next = IsNextRead-first c.args.text.now at.0 at.1 _ c.in-Some.reading _ c.in-Some.ensures.steps.0 at.2 at.4 in
    few_lines c.args.text.now at.0 c.loop-reading.all c.in-Some.reading _ (omega arith) at.3 next

pub returns-in-Err : goal.returns-in-Err
returns-in-Err g c =
    let at = c.loop-reading.invariant in
    let next = IsNextRead-first c.args.text.now at.0 at.1 _ c.in-Some.reading _ c.in-Some.ensures.steps.0 at.2 at.4 in
    subst (λ lines. IsUnreadOf lines c.in-Err.why) (sym next.same)
    (IsUnreadOf-before (at.0 ++ next.piece) _ c.in-Err.why (c.in-Err.ensures at.0 next.piece at.3 next.is_read))

pub loop-reading-preserved : goal.loop-reading-preserved
loop-reading-preserved g c =
    let at = c.loop-reading.invariant in
    let next = IsNextRead-first c.args.text.now at.0 at.1 _ c.in-Some.reading _ c.in-Some.ensures.steps.0 at.2 at.4 in
    let gone = c.in-Some.ensures.steps.1 in
    let fewer = ap length c.in-Some.ensures.steps.0 in
    (at.0 ++ next.piece, next.behind, next.same, c.in-Ok.ensures at.0 next.piece at.3 next.is_read, next.are_read, omega (arith, at.5, gone, fewer))

pub returns : goal.returns
returns g c =
    let at = c.loop-reading.invariant in
    subst (λ lines. IsReadingOf lines c.loop-reading.all) (sym (all_read c.args.text.now at.0 at.1 _ (sym c.in-None.ensures.steps.0 ∙ at.5) at.2 at.4)) at.3

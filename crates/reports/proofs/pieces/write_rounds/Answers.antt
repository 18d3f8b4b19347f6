use Rattle.std.proofs.Common.{◌≡◌, ◌+◌, ◌≤◌, ◌++◌, ◌∙◌, arith}
use Rattle.std.proofs.KnownBytes.{Appends-trans}
use Rattle.reports.specs.Rows.{all_of}
use Rattle.reports.proofs.PieceLemmas.{lines_of-more}
use Rattle.reports.proofs.pieces.write_rounds.Goals as goal

pub loop-done-preserved : goal.loop-done-preserved
loop-done-preserved g c =
    let was = c.loop-done.invariant in
    let end = c.loop-done.done + c.min.result in
    let within : c.loop-done.done ≤ end = omega arith in
    let texts : c.deref.result.now ≡ c.loop-done.texts.items = c.deref.ensures.value in (
      omega (arith, was.0, c.min.ensures),
      was.1 ++ all_of c.deref.result.now,
      Appends-trans _ _ _ _ _ was.2 c.in_ok-texts-2.ensures.written,
      (λ i. (was.1 ++ all_of (texts i)) ++ all_of c.in_ok-texts-2.texts.items)
          ∙ (λ i. was.3 i ++ c.in_ok-texts-2.ensures.texts i)
          ∙ lines_of-more (g.T.TableLines.lines c.args.of.now) c.args.pieces.now c.loop-done.done end within,
    )

-- The number of a run, and its change.
use Rattle.std.proofs.Common.{append_assoc}
use Rattle.std.proofs.lemmas.Result.{IfOk-weaker}
use Rattle.compare.specs.Comparison.{heading_text}
use Rattle.measures.proofs.Texts.{words_both}
use Rattle.compare.proofs.comparison.put_heading.Goals as goal

pub returns : goal.returns
unfolding heading_text
returns c =
    words_both (c.put_cell.ensures _ c.format-run.ensures.ok)
    (c.put_cell-2.ensures _ (IfOk-weaker c.format-change.result _ _ (λ text is. simp append_assoc is) c.format-change.ensures.ok))

-- The label, and the value behind it.
use Rattle.std.proofs.Common.{ap, ap₂}
use Rattle.compare.specs.Lines.{beginning_text}
use Rattle.compare.specs.Texts.{cell_text, label_text, value_text}
use Rattle.measures.proofs.Texts.{words_as, words_both}
use Rattle.compare.proofs.lines.put_beginning.Goals as goal

pub returns : goal.returns
unfolding beginning_text
returns c =
    words_both (words_as (ap (label_text c.args.layout) c.label_of.ensures) c.put_label.ensures)
    (words_as (ap₂ (λ d v. cell_text c.args.layout 12 (value_text c.args.layout d v)) c.decimals_of.ensures c.value_of.ensures.value) (c.put_cell.ensures _ c.value_text-value.ensures))

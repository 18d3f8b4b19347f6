-- The value, and its change behind it.
use Rattle.std.proofs.Common.{ap, ap₂}
use Rattle.compare.specs.Lines.{cells_text}
use Rattle.compare.specs.Texts.{cell_text, change_text, value_text}
use Rattle.measures.proofs.Texts.{words_as, words_both}
use Rattle.compare.proofs.lines.put_cells.Goals as goal

pub returns : goal.returns
unfolding cells_text
returns c =
    words_both
    (words_as (ap₂ (λ d cell. cell_text c.args.layout 12 (value_text c.args.layout d cell.value)) c.decimals_of.ensures c.cell_of-cell.ensures.cell) (c.put_cell.ensures _ c.value_text-value.ensures))
    (words_as (ap (λ cell. cell_text c.args.layout 10 (change_text c.args.layout cell.change)) c.cell_of-cell.ensures.cell) (c.put_cell-2.ensures _ c.change_text-change.ensures))

-- The p99, and its change behind it.
use Rattle.std.proofs.Common.{ap, ap₂, ◌∙◌}
use Rattle.compare.specs.Changes.{change_of}
use Rattle.compare.specs.Tails.{tail_cells_text}
use Rattle.compare.specs.Texts.{cell_text, change_text}
use Rattle.measures.proofs.Texts.{words_as, words_both}
use Rattle.compare.proofs.tails.put_tail_cells.Goals as goal

pub returns : goal.returns
unfolding tail_cells_text
returns c =
    let change_is = c.change_of-change.ensures ∙ ap₂ change_of c.tail_value.ensures.value c.tail_value-2.ensures.value in
    words_both c.put_tail.ensures (words_as (ap (λ change. cell_text c.args.layout 10 (change_text c.args.layout change)) change_is) (c.put_cell.ensures _ c.change_text.ensures))

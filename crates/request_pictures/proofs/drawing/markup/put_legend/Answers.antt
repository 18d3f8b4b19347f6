-- All entries, and the end of the list.
use Rattle.std.proofs.Common.{◌++◌, ap}
use Rattle.std.proofs.lemmas.List.{take_all}
use Rattle.std.specs.Prelude.{codes}
use Rattle.std.specs.List.{flat_map}
use Rattle.measures.proofs.Texts.{words_as, words_both}
use Rattle.measures.proofs.Parts.{part_more}
use Rattle.request_pictures.specs.Legends.{entry_text, legend_text}
use Rattle.request_pictures.proofs.drawing.markup.put_legend.Goals as goal

pub loop-entry-preserved : goal.loop-entry-preserved
loop-entry-preserved c =
    part_more entry_text c.args.entries.now c.loop-entry.entry-index _ (codes "<ul class=\"legend\">") c.loop-entry-test.true c.loop-entry.invariant c.put_entry.ensures

pub returns : goal.returns
unfolding legend_text
returns c =
    words_as (ap (λ entries. codes "<ul class=\"legend\">" ++ flat_map entry_text entries ++ codes "</ul>\n") (take_all c.loop-entry.entry-index c.args.entries.now c.loop-entry-test.false))
    (words_both c.loop-entry.invariant c.push_str-2.ensures.words)

-- One heading after the other, and the end of the line.
use Rattle.std.proofs.Common.{◌++◌, ap}
use Rattle.std.specs.Prelude.{codes}
use Rattle.measures.specs.Texts.{flush_right}
use Rattle.measures.proofs.Texts.{words_as}
use Rattle.show.specs.Tables.{headings_text}
use Rattle.measures.proofs.Parts.{part_more, parts_closed}
use Rattle.show.proofs.Headings.{heading_at, headings_are}
use Rattle.show.proofs.table.TableLayout.put_headings.Goals as goal

pub loop-heading-preserved : goal.loop-heading-preserved
loop-heading-preserved c =
    part_more heading_at c.args.self.now.headings.now c.loop-heading.heading-index _ (flush_right 8 c.args.self.now.label.now) c.loop-heading-test.true c.loop-heading.invariant c.put_column.ensures

pub returns : goal.returns
unfolding headings_text
returns c =
    words_as (ap (λ texts. (flush_right 8 c.args.self.now.label.now ++ texts) ++ codes "\n") (headings_are c.args.self.now.headings.now))
    (parts_closed heading_at c.args.self.now.headings.now c.loop-heading.heading-index (flush_right 8 c.args.self.now.label.now) (codes "\n") c.loop-heading-test.false c.loop-heading.invariant
    c.push_str.ensures.words)

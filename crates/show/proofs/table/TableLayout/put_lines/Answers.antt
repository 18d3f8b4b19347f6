-- One line after the other.
use Rattle.std.proofs.Common.{◌≡◌, ◌++◌, ap, length, arith}
use Rattle.std.specs.List.{flat_map}
use Rattle.sim_base.specs.History.{below}
use Rattle.measures.proofs.Texts.{words_as}
use Rattle.show.specs.Tables.{headings_text, line_text, lines_text, headings_of}
use Rattle.measures.proofs.Parts.{part_below_more}
use Rattle.show.proofs.table.TableLayout.put_lines.Goals as goal

pub loop-place-preserved : goal.loop-place-preserved
loop-place-preserved c =
    let self = c.args.self.now in
    part_below_more (line_text (headings_of self) c.args.summarized c.args.rows.now) c.loop-place.place (headings_text self.label.now (headings_of self)) c.loop-place.invariant
    (c.put_row.ensures _ c.label_of.ensures)

pub returns : goal.returns
unfolding lines_text
returns c =
    let self = c.args.self.now in
    let all : c.loop-place.place ≡ length c.args.rows.now = omega arith in
    words_as (ap (λ n. headings_text self.label.now (headings_of self) ++ flat_map (line_text (headings_of self) c.args.summarized c.args.rows.now) (below n)) all) c.loop-place.invariant

-- One number after the other, and the end of the line.
use Rattle.std.proofs.Common.{◌≡◌, ◌++◌, ap, length, arith}
use Rattle.std.specs.Prelude.{codes}
use Rattle.std.specs.List.{flat_map}
use Rattle.sim_base.specs.History.{below}
use Rattle.std.proofs.lemmas.List.{length-map}
use Rattle.measures.specs.Texts.{flush_right}
use Rattle.measures.proofs.Texts.{words_as, words_both}
use Rattle.show.specs.Tables.{number_at, row_text, headings_of}
use Rattle.measures.proofs.Parts.{part_below_more}
use Rattle.show.proofs.table.TableLayout.put_line.Goals as goal

pub loop-place-preserved : goal.loop-place-preserved
loop-place-preserved c =
    part_below_more (number_at (headings_of c.args.self.now) c.args.row.now) c.loop-place.place (flush_right 8 c.args.label.now) c.loop-place.invariant c.put_number.ensures

pub returns : goal.returns
unfolding row_text
returns c =
    let count = length-map c.args.self.now.headings.now (λ heading. heading.now) in
    let all : c.loop-place.place ≡ length (headings_of c.args.self.now) = omega (arith, count) in
    words_as (ap (λ n. (flush_right 8 c.args.label.now ++ flat_map (number_at (headings_of c.args.self.now) c.args.row.now) (below n)) ++ codes "\n") all)
    (words_both c.loop-place.invariant c.push_str.ensures.words)

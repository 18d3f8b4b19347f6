use Rattle.std.proofs.Common.{◌≡◌, ◌+◌, ap, ◌++◌, arith}
use Rattle.std.specs.Prelude.{codes}
use Rattle.std.specs.List.{flat_map}
use Rattle.sim_base.specs.History.{below}
use Rattle.compare.specs.Texts.{cell_text}
use Rattle.compare.specs.Comparison.{heading_text, headings_text}
use Rattle.measures.proofs.Texts.{words_as, words_both}
use Rattle.measures.proofs.Parts.{part_below_more}
use Rattle.compare.proofs.comparison.put_headings.Goals as goal

pub loop-place-preserved : goal.loop-place-preserved
loop-place-preserved c = part_below_more (λ place. heading_text c.args.layout (place + 2)) c.loop-place.place (cell_text c.args.layout 12 (codes "run 1")) c.loop-place.invariant c.put_heading.ensures

pub returns : goal.returns
unfolding headings_text
returns c =
    let all : c.loop-place.place ≡ c.args.others = omega arith in
    words_as (ap (λ n. (cell_text c.args.layout 12 (codes "run 1") ++ flat_map (λ place. heading_text c.args.layout (place + 2)) (below n)) ++ codes "\n") all)
    (words_both c.loop-place.invariant c.push_str.ensures.words)

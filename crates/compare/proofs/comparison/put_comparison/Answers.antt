-- The names and the headings, and the lines below them.
use Rattle.std.proofs.Common.{ap, sym}
use Rattle.compare.specs.Comparison.{comparison_text, runs_text}
use Rattle.sim_base.specs.Texts.{texts_of}
use Rattle.measures.proofs.Texts.{words_as, words_both}
use Rattle.compare.proofs.comparison.put_comparison.Goals as goal

pub returns-in-Some : goal.returns-in-Some
unfolding runs_text
returns-in-Some c =
    words_as (ap (λ runs. comparison_text c.args.layout (texts_of c.args.names.now) runs c.args.tails.now) (sym c.in-Some.ensures.cases.0))
    (words_both (words_both c.put_head.ensures c.put_headings.ensures) c.put_lines.ensures)

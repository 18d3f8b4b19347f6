-- The line of p99 stands between the others.
use Rattle.compare.specs.Lines.{lines_text}
use Rattle.measures.proofs.Texts.{words_both}
use Rattle.compare.proofs.lines.put_lines.Goals as goal

pub returns : goal.returns
unfolding lines_text
returns c = words_both (words_both c.put_lines_of.ensures c.put_tails.ensures) c.put_lines_of-2.ensures

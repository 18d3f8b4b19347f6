use Rattle.std.specs.Prelude.{codes}
use Rattle.compare.specs.Lines.{beginning_text, cells_text, line_text}
use Rattle.measures.proofs.Parts.{parts_closed}
use Rattle.compare.proofs.lines.put_line.Goals as goal

pub returns : goal.returns
unfolding line_text
returns c =
    parts_closed (cells_text c.args.layout c.args.base.now c.args.measure) c.args.others.now c.loop-run.run-index (beginning_text c.args.layout c.args.base.now c.args.measure) (codes "\n")
    c.loop-run-test.false c.loop-run.invariant c.push_str.ensures.words

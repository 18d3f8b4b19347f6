use Rattle.std.proofs.Common.{List, ℕ, ◌++◌, sym}
use Rattle.std.proofs.lemmas.List.{append-nil}
use Rattle.std.specs.Prelude.{codes}
use Rattle.compare.specs.Tails.{tail_text, tail_cells_text, tail_line_text}
use Rattle.compare.specs.Texts.{label_text}
use Rattle.measures.proofs.Texts.{words_as, words_both}
use Rattle.measures.proofs.Parts.{parts_closed}
use Rattle.compare.proofs.tails.put_tail_line.Goals as goal

pub loop-tail-init : goal.loop-tail-init
loop-tail-init c =
    let head : List ℕ = label_text c.args.layout (codes "read latency p99") ++ tail_text c.args.layout c.args.base in
    words_as (sym (append-nil head)) (words_both c.put_label.ensures c.put_tail.ensures)

pub returns : goal.returns
unfolding tail_line_text
returns c =
    parts_closed (tail_cells_text c.args.layout c.args.base) c.args.others.now c.loop-tail.tail-index (label_text c.args.layout (codes "read latency p99") ++ tail_text c.args.layout c.args.base) (codes "\n")
    c.loop-tail-test.false c.loop-tail.invariant c.push_str.ensures.words

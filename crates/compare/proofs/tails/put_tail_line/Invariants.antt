-- The beginning, and the cells of the runs so far.
use Rattle.std.proofs.Common.{◌++◌, take}
use Rattle.std.specs.Prelude.{codes}
use Rattle.std.specs.List.{flat_map}
use Rattle.compare.specs.Tails.{tail_text, tail_cells_text}
use Rattle.compare.specs.Texts.{label_text}
use Rattle.measures.specs.Texts.{PutsWords}
use Rattle.compare.proofs.tails.put_tail_line.Given as goal

abbrev pub invariant-loop-tail : goal.invariant-loop-tail
invariant-loop-tail l =
    PutsWords ((label_text l.layout (codes "read latency p99") ++ tail_text l.layout l.base) ++ flat_map (tail_cells_text l.layout l.base) (take l.tail-index l.others)) l.fn.out l.out

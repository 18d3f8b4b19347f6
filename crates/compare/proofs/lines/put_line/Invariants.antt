-- The beginning, and the cells of the runs so far.
use Rattle.std.proofs.Common.{◌++◌, take}
use Rattle.std.specs.List.{flat_map}
use Rattle.compare.specs.Lines.{beginning_text, cells_text}
use Rattle.measures.specs.Texts.{PutsWords}
use Rattle.compare.proofs.lines.put_line.Given as goal

abbrev pub invariant-loop-run : goal.invariant-loop-run
invariant-loop-run l = PutsWords (beginning_text l.layout l.base l.measure ++ flat_map (cells_text l.layout l.base l.measure) (take l.run-index l.others)) l.fn.out l.out

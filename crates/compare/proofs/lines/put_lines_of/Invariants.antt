-- The lines of the measures so far.
use Rattle.std.proofs.Common.{take}
use Rattle.std.specs.List.{flat_map}
use Rattle.compare.specs.Lines.{line_text}
use Rattle.measures.specs.Texts.{PutsWords}
use Rattle.compare.proofs.lines.put_lines_of.Given as goal

abbrev pub invariant-loop-measure : goal.invariant-loop-measure
invariant-loop-measure l = PutsWords (flat_map (line_text l.layout l.base l.others) (take l.measure-index l.measures)) l.fn.out l.out

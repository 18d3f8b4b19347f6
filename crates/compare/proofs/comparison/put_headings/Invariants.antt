-- The headings so far.
use Rattle.std.proofs.Common.{◌+◌, ◌++◌, codes}
use Rattle.std.specs.List.{flat_map}
use Rattle.sim_base.specs.History.{below}
use Rattle.compare.specs.Comparison.{heading_text}
use Rattle.compare.specs.Texts.{cell_text}
use Rattle.measures.specs.Texts.{PutsWords}
use Rattle.compare.proofs.comparison.put_headings.Given as goal

abbrev pub invariant-loop-place : goal.invariant-loop-place
invariant-loop-place l = PutsWords (cell_text l.layout 12 (codes "run 1") ++ flat_map (λ place. heading_text l.layout (place + 2)) (below l.place)) l.fn.out l.out

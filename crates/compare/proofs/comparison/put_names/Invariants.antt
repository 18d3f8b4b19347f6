-- The names so far.
use Rattle.std.proofs.Common.{◌+◌, [], get_or, map}
use Rattle.std.specs.List.{flat_map}
use Rattle.sim_base.specs.History.{below}
use Rattle.compare.specs.Comparison.{name_text}
use Rattle.measures.specs.Texts.{PutsWords}
use Rattle.compare.proofs.comparison.put_names.Given as goal

abbrev pub invariant-loop-place : goal.invariant-loop-place
invariant-loop-place l = PutsWords (flat_map (λ place. name_text (place + 1) (get_or (map (λ n. n.now) l.names) place [])) (below l.place)) l.fn.out l.out

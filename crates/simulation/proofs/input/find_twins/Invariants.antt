-- What was found so far are the sources of the first cores.
use Rattle.std.proofs.Common.{◌≡◌, map, vec_len}
use Rattle.simulation.specs.Traces.{AreTwins}
use Rattle.simulation.proofs.input.find_twins.Given as goal

abbrev pub invariant-loop-text : goal.invariant-loop-text
invariant-loop-text l = record {
  sources : AreTwins (map (λ t. t.now) l.texts) l.sources.items;
  count : vec_len l.sources ≡ l.text-index;
}

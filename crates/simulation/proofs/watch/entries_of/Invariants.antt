-- The entries of the first traces, of which each has at most 2^62.
use Rattle.std.proofs.Common.{◌≡◌, ◌≤◌, ◌*◌, ◌^◌, length, take}
use Rattle.std.specs.List.{sum_by}
use Rattle.simulation.proofs.watch.entries_of.Given as goal

abbrev pub invariant-loop-trace : goal.invariant-loop-trace
invariant-loop-trace l = (l.entries ≡ sum_by length (take l.trace-index l.traces)) × (l.entries ≤ 2 ^ 62 * l.trace-index)

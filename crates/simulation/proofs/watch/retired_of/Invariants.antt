-- What retired in the first cores; each counts less than 2^64.
use Rattle.std.proofs.Common.{◌≡◌, ◌≤◌, ◌*◌, ◌^◌, take}
use Rattle.std.specs.List.{sum_by}
use Rattle.simulation.proofs.watch.retired_of.Given as goal

abbrev pub invariant-loop-core : goal.invariant-loop-core
invariant-loop-core l = (l.retired ≡ sum_by (λ core. core.retired) (take l.core-index l.cores)) × (l.retired ≤ 2 ^ 64 * l.core-index)

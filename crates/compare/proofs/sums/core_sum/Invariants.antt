-- The sum is that of the cores so far.
use Rattle.std.proofs.Common.{◌≡◌, take}
use Rattle.std.specs.List.{sum_by}
use Rattle.compare.specs.Sums.{saturated, count_of_core}
use Rattle.compare.proofs.sums.core_sum.Given as goal

abbrev pub invariant-loop-core : goal.invariant-loop-core
invariant-loop-core l = l.sum ≡ saturated (sum_by (count_of_core l.count) (take l.core-index l.cores))

-- The jobs so far have their results.
use Rattle.std.proofs.Common.{◌≡◌, ◌++◌, length}
use Rattle.std.specs.Vec.Iter.{into_iter_items, into_iter_len}
use Rattle.simulation.proofs.gate.run_all.Given as goal

abbrev pub invariant-loop-job : goal.invariant-loop-job
invariant-loop-job g l =
    (l.yielded ++ into_iter_items l.job-iterator ≡ into_iter_items l.initial.job-iterator)
    × (into_iter_len l.job-iterator ≡ length (into_iter_items l.job-iterator))
    × (l.results.items ≡ l.yielded)

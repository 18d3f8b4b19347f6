-- The tasks so far are run.
use Rattle.std.proofs.Common.{◌≡◌, ◌++◌, length, map}
use Rattle.std.specs.Vec.Iter.{into_iter_items, into_iter_len}
use Rattle.crew.proofs.caller.run_all.Given as goal

abbrev pub invariant-loop-task : goal.invariant-loop-task
invariant-loop-task g l =
    (l.yielded ++ into_iter_items l.task-iterator ≡ into_iter_items l.initial.task-iterator)
    × (into_iter_len l.task-iterator ≡ length (into_iter_items l.task-iterator))
    × (map g.D.DoneOf.task l.results.items ≡ l.yielded)

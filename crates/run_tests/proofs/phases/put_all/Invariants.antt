-- The tasks so far are on the board.
use Rattle.std.proofs.Common.{◌≡◌, ◌++◌, []}
use Rattle.std.specs.Vec.Iter.{into_iter_items}
use Rattle.crew.specs.Rule.{put_view}
use Rattle.run_tests.proofs.phases.put_all.Given as goal

abbrev pub invariant-loop-task : goal.invariant-loop-task
invariant-loop-task g l = (l.yielded ++ into_iter_items l.task-iterator ≡ l.fn.tasks.items) × (l.seat ≡ put_view l.yielded [])

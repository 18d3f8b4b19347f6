use Rattle.std.proofs.Common.{length, ◌-◌, ◌≤◌}
use Rattle.queue.specs.Lines.{NoneTaggedAs}
use Rattle.queue.proofs.request_log.lines.next_for_line.Given as goal

-- none so far
abbrev pub invariant-loop-at : goal.invariant-loop-at
invariant-loop-at l = (l.fn.from ≤ l.at) × NoneTaggedAs l.eligible l.place l.log l.tags l.fn.from l.at

abbrev pub decreases-loop-at : goal.decreases-loop-at
decreases-loop-at l = length l.tags - l.at

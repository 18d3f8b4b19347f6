use Rattle.std.proofs.Common.{◌-◌, ◌<◌, ◌≤◌, ◌^◌}
use Rattle.queue.proofs.request_log.lines.counters.Given as goal

-- no more than twice as many as are wanted
abbrev pub invariant-loop-mask : goal.invariant-loop-mask
invariant-loop-mask l = (255 ≤ l.mask) × (l.mask < 2 ^ 32) × (l.wanted < 2 ^ 30)

abbrev pub decreases-loop-mask : goal.decreases-loop-mask
decreases-loop-mask l = l.wanted - l.mask

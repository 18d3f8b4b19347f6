-- The machine is in turns, with the channels behind the cores, and each turn of the channels comes nearer to the limit.
use Rattle.std.proofs.Common.{◌-◌, ◌≤◌}
use Rattle.in_place.specs.Turns.{InTurnsAt}
use Rattle.in_place.proofs.taking_turns.run_to.Given as goal

abbrev pub invariant-loop-at : goal.invariant-loop-at
invariant-loop-at l = InTurnsAt l.machine l.at l.kinds l.traffic.links × (l.at.channels_at ≤ l.at.cores_at) × (l.at.cores_at ≤ l.limit)

abbrev pub decreases-loop-at : goal.decreases-loop-at
decreases-loop-at l = l.limit - l.at.channels_at

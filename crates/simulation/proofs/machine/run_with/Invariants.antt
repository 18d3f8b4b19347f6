-- The run is the same, no earlier than where it began, and not past the limit, and did not end on the way; in each
-- round it comes nearer to the limit.
use Rattle.std.proofs.Common.{◌≡◌, ◌≤◌, ◌-◌}
use Rattle.units.specs.Drained.{NotEnded}
use Rattle.simulation.proofs.machine.run_with.Given as goal

abbrev pub invariant-loop-stop : goal.invariant-loop-stop
invariant-loop-stop g l =
    (l.sim.machine ≡ l.fn.sim.machine) × (l.fn.sim.now ≤ l.sim.now) × (l.sim.now ≤ l.limit) × NotEnded l.fn.sim.machine l.fn.sim.now l.sim.now

abbrev pub decreases-loop-stop : goal.decreases-loop-stop
decreases-loop-stop g l = l.limit - l.sim.now

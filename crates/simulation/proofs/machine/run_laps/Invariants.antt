-- The run is the same, no earlier than where it began, and not past the limit; in each round it comes nearer to it.
use Rattle.std.proofs.Common.{◌≡◌, ◌≤◌, ◌-◌}
use Rattle.simulation.proofs.machine.run_laps.Given as goal

abbrev pub invariant-loop-alloc : goal.invariant-loop-alloc
invariant-loop-alloc g l =
    (l.sim.machine ≡ l.fn.sim.machine) × (l.fn.sim.now ≤ l.sim.now) × (l.sim.now ≤ l.limit)

abbrev pub decreases-loop-alloc : goal.decreases-loop-alloc
decreases-loop-alloc g l = l.limit - l.sim.now

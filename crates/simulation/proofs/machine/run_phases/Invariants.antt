-- The run is the same, and not past the stop; in each round it comes nearer to it.
use Rattle.std.proofs.Common.{◌≡◌, ◌≤◌, ◌-◌}
use Rattle.simulation.proofs.machine.run_phases.Given as goal

abbrev pub invariant-loop-sim : goal.invariant-loop-sim
invariant-loop-sim g l = (l.sharded.machine ≡ l.fn.sim.machine) × (l.sharded.now ≤ l.stop)

abbrev pub decreases-loop-sim : goal.decreases-loop-sim
decreases-loop-sim g l = l.stop - l.sharded.now

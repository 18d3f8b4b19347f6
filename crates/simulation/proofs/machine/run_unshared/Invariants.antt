-- The run and its extent are the same, it is not past the limit, and did not end; in each round it comes nearer to the
-- limit.
use Rattle.std.proofs.Common.{◌≡◌, ◌≤◌, ◌-◌}
use Rattle.units.specs.Drained.{NotEnded}
use Rattle.simulation.specs.Stages.{IsExtentOf}
use Rattle.simulation.proofs.machine.run_unshared.Given as goal

abbrev pub invariant-loop-sim : goal.invariant-loop-sim
invariant-loop-sim g l =
    (l.sim.machine ≡ l.fn.run.sim.machine) × (l.sim.now ≤ l.fn.options.cycles) × NotEnded l.fn.run.sim.machine 0 l.sim.now
    × IsExtentOf l.fn.run.sim.machine l.state.extent

abbrev pub decreases-loop-sim : goal.decreases-loop-sim
decreases-loop-sim g l = l.fn.options.cycles - l.sim.now

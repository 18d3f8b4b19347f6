-- The run and its extent are the same, it is not past the limit, and did not end; in each round it comes nearer to the
-- limit.
use Rattle.std.proofs.Common.{◌≡◌, ◌≤◌, ◌-◌}
use Rattle.units.specs.Drained.{NotEnded}
use Rattle.simulation.specs.Stages.{IsExtentOf}
use Rattle.simulation.proofs.machine.finish.Given as goal

abbrev pub invariant-loop-stop : goal.invariant-loop-stop
invariant-loop-stop g l =
    (l.sim.machine ≡ l.fn.run.sim.machine) × (l.sim.now ≤ l.fn.options.cycles) × NotEnded l.fn.run.sim.machine 0 l.sim.now
    × IsExtentOf l.fn.run.sim.machine l.state.extent

abbrev pub decreases-loop-stop : goal.decreases-loop-stop
decreases-loop-stop g l = l.fn.options.cycles - l.sim.now

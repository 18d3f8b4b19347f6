-- The run, in as many shards as it was split into, has come by phases whose results fitted to where it stands, which
-- is not past the stop; in each round it comes nearer to it.
use Rattle.std.proofs.Common.{◌≡◌, ◌≤◌, ◌-◌}
use Rattle.shards.specs.Phases.{shards_in, sim_of}
use Rattle.reference.specs.Orders.{HasCome}
use Rattle.reference.proofs.ordered.run_phases.Given as goal

abbrev pub invariant-loop-sim : goal.invariant-loop-sim
invariant-loop-sim g l =
    (l.sharded.machine ≡ l.fn.sim.machine) × (l.sharded.now ≤ l.stop) × (shards_in l.sharded ≡ l.shards)
    × HasCome g.O.Order.may_give l.shards l.fn.sim l.stop (sim_of l.sharded)

abbrev pub decreases-loop-sim : goal.decreases-loop-sim
decreases-loop-sim g l = l.stop - l.sharded.now

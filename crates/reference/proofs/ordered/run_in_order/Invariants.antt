-- The run has come by phases whose results fitted to where it stands, no earlier than where it began and not past the
-- limit, and did not end on the way; in each round it comes nearer to the limit.
use Rattle.std.proofs.Common.{◌≡◌, ◌≤◌, ◌-◌}
use Rattle.units.specs.Drained.{NotEnded}
use Rattle.reference.specs.Orders.{HasCome}
use Rattle.reference.proofs.ordered.run_in_order.Given as goal

abbrev pub invariant-loop-stop : goal.invariant-loop-stop
invariant-loop-stop g l =
    (l.sim.machine ≡ l.fn.sim.machine) × (l.fn.sim.now ≤ l.sim.now) × (l.sim.now ≤ l.limit)
    × NotEnded l.fn.sim.machine l.fn.sim.now l.sim.now
    × HasCome g.O.Order.may_give l.shards l.fn.sim l.limit l.sim

abbrev pub decreases-loop-stop : goal.decreases-loop-stop
decreases-loop-stop g l = l.limit - l.sim.now

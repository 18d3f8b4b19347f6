-- The first ones are up to the cycle, and the last ones after it.
use Rattle.std.proofs.Common.{◌≤◌, ◌-◌, length, take, drop}
use Rattle.command_table.specs.Lefts.{AllUpTo, AllAfter}
use Rattle.command_table.proofs.left.Left.count_up_to.Given as goal

abbrev pub invariant-loop-low : goal.invariant-loop-low
invariant-loop-low l = record {
  within : (l.low ≤ l.high) × (l.high ≤ length l.self);
  before : AllUpTo l.cycle (take l.low l.self);
  behind : AllAfter l.cycle (drop l.high l.self);
}

abbrev pub decreases-loop-low : goal.decreases-loop-low
decreases-loop-low l = l.high - l.low

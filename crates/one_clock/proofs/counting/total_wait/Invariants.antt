-- The total is that of the replies so far.
use Rattle.std.proofs.Common.{◌≡◌, ◌*◌, ◌^◌, ◌≤◌, take}
use Rattle.statistics.specs.Cores.{waited}
use Rattle.one_clock.proofs.counting.total_wait.Given as goal

abbrev pub invariant-loop-m : goal.invariant-loop-m
invariant-loop-m l = record { total : l.total ≡ waited l.past_steps (take l.m-index l.arrived); small : l.total ≤ 2 ^ 64 * l.m-index }

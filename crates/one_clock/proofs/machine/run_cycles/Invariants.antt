-- The machine keeps the run of the cycles that are done, and it has not ended before.
use Rattle.std.proofs.Common.{◌≡◌}
use Rattle.one_clock.specs.Ends.{cycles_within}
use Rattle.one_clock.specs.Held.{HoldsUpTo}
use Rattle.one_clock.proofs.machine.run_cycles.Given as goal

abbrev pub invariant-loop-number : goal.invariant-loop-number
invariant-loop-number l = record { holds : HoldsUpTo l.first l.number l.machine; goes_on : cycles_within l.first l.number ≡ l.number }

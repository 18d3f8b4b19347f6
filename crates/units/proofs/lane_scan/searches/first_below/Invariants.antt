use Rattle.units.specs.Scans.{NoneBelow}
use Rattle.units.proofs.lane_scan.searches.first_below.Given as goal

-- no word before the place that the loop has come to is below the bound
abbrev pub invariant-loop-place : goal.invariant-loop-place
invariant-loop-place l = NoneBelow l.bound l.words l.place

use Rattle.std.proofs.Common.{◌-◌, ◌≤◌, length}
use Rattle.units.specs.Scans.{NoneBelow}
use Rattle.units.proofs.lane_scan.searches.skip_others.Given as goal

-- no word before the place that the loop has come to is below the bound
abbrev pub invariant-loop-at : goal.invariant-loop-at
invariant-loop-at g l = (l.at ≤ length l.words) × NoneBelow l.bound l.words l.at

abbrev pub decreases-loop-at : goal.decreases-loop-at
decreases-loop-at g l = length l.initial.words - l.at

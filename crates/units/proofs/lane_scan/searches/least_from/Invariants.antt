use Rattle.std.proofs.Common.{◌≡◌, ◌-◌, ◌≤◌, min, length, take}
use Rattle.units.specs.Scans.{least_of}
use Rattle.units.proofs.lane_scan.searches.least_from.Given as goal

-- the lanes have the least of the words since the loop began
abbrev pub invariant-loop-at : goal.invariant-loop-at
invariant-loop-at g l = (l.at ≤ length l.words) × (length l.lanes ≡ g.row.N) × (min l.least (least_of l.lanes) ≡ least_of (take l.at l.words))

abbrev pub decreases-loop-at : goal.decreases-loop-at
decreases-loop-at g l = length l.initial.words - l.at

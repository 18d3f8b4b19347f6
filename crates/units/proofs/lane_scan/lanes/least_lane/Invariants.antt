use Rattle.std.proofs.Common.{◌≡◌, take}
use Rattle.units.specs.Scans.{least_of}
use Rattle.units.proofs.lane_scan.lanes.least_lane.Given as goal

-- the least of the lanes so far
abbrev pub invariant-loop-word : goal.invariant-loop-word
invariant-loop-word g l = l.least ≡ least_of (take l.word-index l.word-items)

-- The units before the place are taken over the span.
use Rattle.std.proofs.Common.{◌≡◌, ◌-◌, length}
use Rattle.units.proofs.Passing.{AreTaken}
use Rattle.units.proofs.waking.go_on.Given as goal

abbrev pub invariant-loop-place : goal.invariant-loop-place
invariant-loop-place l =
    (l.range.first ≡ l.fn.range.first)
    × AreTaken l.machine l.fn.range.first (length l.fn.range.units.items) l.span.here l.span.there l.span.until l.range.units.items l.range.words.items l.traffic.sent.items l.fn.traffic.links l.traffic.links l.place

abbrev pub decreases-loop-place : goal.decreases-loop-place
decreases-loop-place l = length l.fn.range.units.items - l.place

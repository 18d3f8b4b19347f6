-- The Reads before the one at hand moved up by a place.
use Rattle.std.proofs.Common.{◌≡◌, ◌≤◌, ◌-◌, drop, length}
use Rattle.core_window.proofs.Taking.{IsCarrying}
use Rattle.core_window.proofs.outstanding.take_from.Given as goal

abbrev pub invariant-search : goal.invariant-search
invariant-search l = record {
  carries : IsCarrying l.entry (drop l.first l.fn.places) l.first l.places l.place l.held;
  within : l.place ≤ length l.fn.places;
  len : length l.places ≡ length l.fn.places;
}

abbrev pub decreases-search : goal.decreases-search
decreases-search l = length l.fn.places - l.place

-- The bounds so far begin with 0 and never fall.
use Rattle.std.proofs.Common.{◌≡◌, ◌≤◌, length}
use Rattle.units.specs.Units.{unit_count}
use Rattle.shards.proofs.Splitting.{Climbs}
use Rattle.shards.proofs.split.bounds_for.Given as goal

abbrev pub invariant-loop-parts : goal.invariant-loop-parts
invariant-loop-parts l = (length l.bounds.items ≡ l.parts) × (l.last ≤ unit_count l.config) × Climbs l.bounds.items l.last

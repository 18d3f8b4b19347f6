-- The cores that are made stand for their parts.
use Rattle.std.proofs.Common.{◌≡◌, length}
use Rattle.units.specs.Parts.{StandAt}
use Rattle.units.proofs.sim.add_cores.Given as goal

abbrev pub invariant-loop-core : goal.invariant-loop-core
invariant-loop-core l = (length l.parts.items ≡ l.core) × StandAt l.machine 0 l.parts.items

-- The units so far have finished.
use Rattle.std.proofs.Common.{ℕ, ◌<◌}
use Rattle.units.specs.Units.{unit_at}
use Rattle.units.specs.Parts.{StandAt}
use Rattle.units.specs.Drained.{HasFinished}
use Rattle.units.proofs.drained.all_finished.Given as goal

abbrev pub invariant-loop-place : goal.invariant-loop-place
invariant-loop-place l =
    (now : ℕ) → StandAt l.machine now l.parts
    → (place : ℕ) → place < l.place → HasFinished l.machine now (unit_at l.machine.config place)

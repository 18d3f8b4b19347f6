-- The run goes on up to the greatest cycle so far.
use Rattle.units.specs.Parts.{StandAt}
use Rattle.units.specs.Drained.{StillRuns}
use Rattle.units.proofs.drained.cores_until.Given as goal

abbrev pub invariant-loop-place : goal.invariant-loop-place
invariant-loop-place l = StandAt l.machine l.now l.parts → StillRuns l.machine l.now l.until

-- The fields before stand in the bits before.
use Rattle.address_map.proofs.Shifted.{IsBehind}
use Rattle.address_map.proofs.digits.Digit.of_field.Given as goal

abbrev pub invariant-loop-other : goal.invariant-loop-other
invariant-loop-other l = IsBehind l.config l.field l.other-index l.shift

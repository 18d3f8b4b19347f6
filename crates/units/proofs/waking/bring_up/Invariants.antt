-- The units so far stand where the machine does.
use Rattle.std.proofs.Common.{◌≡◌, ◌+◌, ◌++◌, length}
use Rattle.std.specs.Vec.Iter.{into_iter_items, into_iter_len}
use Rattle.units.specs.Parts.{StandAt}
use Rattle.units.proofs.waking.bring_up.Given as goal

abbrev pub invariant-loop-unit : goal.invariant-loop-unit
invariant-loop-unit l =
    (l.yielded ++ into_iter_items l.unit-iterator ≡ into_iter_items l.initial.unit-iterator)
    × (into_iter_len l.unit-iterator ≡ length (into_iter_items l.unit-iterator))
    × (length l.parts.items ≡ length l.fn.parts.items + length l.yielded)
    × StandAt l.machine l.now l.parts.items

-- It is so of the parts so far.
use Rattle.std.proofs.Common.{◌≡◌, ◌↔◌, true}
use Rattle.std.specs.Str.Iter.{HasSubslice}
use Rattle.std.specs.List.{AllWithin}
use Rattle.program_tests.proofs.expect.expect_parts.Given as goal

abbrev pub invariant-loop-part : goal.invariant-loop-part
invariant-loop-part g l = AllWithin (λ part. l.are_there ≡ true ↔ HasSubslice l.text part.now) l.parts 0 l.part-index

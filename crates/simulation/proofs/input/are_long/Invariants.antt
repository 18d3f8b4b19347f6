-- The bytes of the cores so far, with those that are left of the bound, are all of it.
use Rattle.std.proofs.Common.{◌≡◌, ◌+◌, ◌^◌, map, drop}
use Rattle.simulation.specs.Traces.{bytes_to_read}
use Rattle.simulation.proofs.TraceLists.{texts_from}
use Rattle.simulation.proofs.input.are_long.Given as goal

abbrev pub invariant-loop-core : goal.invariant-loop-core
invariant-loop-core l = bytes_to_read (map (λ t. t.now) l.texts) l.sources + l.left ≡ 2 ^ 18 + bytes_to_read (texts_from l.texts l.core) (drop l.core l.sources)

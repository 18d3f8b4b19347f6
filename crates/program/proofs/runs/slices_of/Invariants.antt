-- The slices so far are the texts so far.
use Rattle.std.proofs.Common.{◌≡◌, map, take}
use Rattle.program.proofs.runs.slices_of.Given as goal

abbrev pub invariant-loop-text : goal.invariant-loop-text
invariant-loop-text l = map (λ s. s.now) l.slices.items ≡ map (λ t. t) (take l.text-index l.texts)

-- The stream took what stands before the rest.
use Rattle.std.proofs.Common.{length}
use Rattle.refusal.specs.Lines.{TakesUntil}
use Rattle.refusal.specs.Streams.{stream_of}
use Rattle.refusal.proofs.lines.put.Given as goal

abbrev pub invariant-loop-rest : goal.invariant-loop-rest
invariant-loop-rest g l = TakesUntil (g.E.Write.contents (stream_of l.fn.errors)) (g.E.Write.contents (stream_of l.errors)) l.text l.rest

abbrev pub decreases-loop-rest : goal.decreases-loop-rest
decreases-loop-rest g l = length l.rest

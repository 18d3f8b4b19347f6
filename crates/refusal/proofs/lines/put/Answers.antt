use Rattle.refusal.proofs.LineFacts.{more_taken}
use Rattle.refusal.proofs.lines.put.Goals as goal

pub loop-rest-preserved : goal.loop-rest-preserved
loop-rest-preserved g c = more_taken _ _ _ _ _ _ c.loop-rest.invariant c.in_ok-count.ensures.bytes

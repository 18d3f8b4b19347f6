use Rattle.links.proofs.Steps.{Sinks}
use Rattle.links.proofs.buffers.insert_from_back.Given as goal

abbrev pub invariant-searching : goal.invariant-searching
invariant-searching l = Sinks l.message l.place l.fn.messages l.messages

abbrev pub decreases-searching : goal.decreases-searching
decreases-searching l = l.place

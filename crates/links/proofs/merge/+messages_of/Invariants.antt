use Rattle.std.proofs.Common.{length}
use Rattle.links.proofs.merge.+messages_of.Given as goal

abbrev pub decreases-messages_of : goal.decreases-messages_of
decreases-messages_of l = length l.buffers.now

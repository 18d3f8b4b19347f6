-- The law, as it is proved.
use Rattle.laws.proofs.Drained.{drains_follow_writes}
use Rattle.laws.proofs.drains.drains_follow_writes.Goals as goal

pub returns : goal.returns
returns c = drains_follow_writes

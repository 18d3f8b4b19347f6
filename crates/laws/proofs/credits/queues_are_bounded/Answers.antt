-- The law, as it is proved.
use Rattle.laws.proofs.Bounded.{queues_are_bounded}
use Rattle.laws.proofs.credits.queues_are_bounded.Goals as goal

pub returns : goal.returns
returns c = queues_are_bounded

-- The law, as it is proved.
use Rattle.laws.proofs.Burst.{bursts_do_not_overlap}
use Rattle.laws.proofs.commands.bursts_do_not_overlap.Goals as goal

pub returns : goal.returns
returns c = bursts_do_not_overlap

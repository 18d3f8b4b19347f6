use Rattle.shards.proofs.Splitting.{goes-none}
use Rattle.shards.proofs.split.goes_to.Goals as goal

pub returns-in-None : goal.returns-in-None
returns-in-None c = goes-none c.args.config.now c.args.first c.args.end c.args.message.now c.requires c.in-None.ensures.none

-- The law, as it is proved.
use Rattle.laws.proofs.Travel.{links_carry_one_a_cycle}
use Rattle.laws.proofs.messages.links_carry_one_a_cycle.Goals as goal

pub returns : goal.returns
returns c = links_carry_one_a_cycle

-- The law, as it is proved.
use Rattle.laws.proofs.Once.{requests_are_served_once}
use Rattle.laws.proofs.messages.requests_are_served_once.Goals as goal

pub returns : goal.returns
returns c = requests_are_served_once

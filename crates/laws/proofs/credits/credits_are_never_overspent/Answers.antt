-- The law, as it is proved.
use Rattle.laws.proofs.Spent.{credits_are_never_overspent}
use Rattle.laws.proofs.Conserved.{credits_come_back_once}
use Rattle.laws.proofs.credits.credits_are_never_overspent.Goals as goal

pub returns : goal.returns
returns c = record { spent = credits_are_never_overspent; back = credits_come_back_once }

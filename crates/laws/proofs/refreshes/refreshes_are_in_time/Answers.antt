-- The law, as it is proved.
use Rattle.laws.proofs.Timely.{refreshes_are_in_time, refreshes_are_not_early, refreshes_are_wanted}
use Rattle.laws.proofs.refreshes.refreshes_are_in_time.Goals as goal

pub returns : goal.returns
returns c = record { in_time = refreshes_are_in_time; not_early = refreshes_are_not_early; wanted = refreshes_are_wanted }

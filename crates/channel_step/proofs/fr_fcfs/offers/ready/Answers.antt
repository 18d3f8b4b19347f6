use Rattle.channel_step.proofs.FrFcfs.Legal.{legal_from}
use Rattle.channel_step.proofs.fr_fcfs.offers.ready.Goals as goal

pub returns : goal.returns
returns c s history stands command kind_is bank_is finds = legal_from s history command c.earliest_in.result finds (c.earliest_in.ensures.least s history command stands kind_is bank_is)

-- The law, as it is proved.
use Rattle.laws.proofs.Dated.{requests_arrive_as_issued}
use Rattle.laws.proofs.request_laws.arrivals.requests_arrive_as_issued.Goals as goal

pub returns : goal.returns
returns c = requests_arrive_as_issued

-- The law, as it is proved.
use Rattle.laws.proofs.Serving.{are_timed}
use Rattle.laws.proofs.request_laws.timed.requests_are_timed.Goals as goal

pub returns : goal.returns
returns c = are_timed

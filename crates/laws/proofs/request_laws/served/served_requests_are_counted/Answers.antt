-- The law, as it is proved.
use Rattle.laws.proofs.Adding.{are_counted}
use Rattle.laws.proofs.request_laws.served.served_requests_are_counted.Goals as goal

pub returns : goal.returns
returns c = are_counted

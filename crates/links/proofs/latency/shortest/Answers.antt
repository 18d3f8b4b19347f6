use Rattle.std.proofs.Common.{◌≡◌, ap₂, ◌∙◌, min}
use Rattle.links.proofs.Shortest.{least_of, least_of-meets, least_of-attained, least_of-positive}
use Rattle.links.proofs.latency.shortest.Goals as goal
use Rattle.links.proofs.latency.shortest.Goals.{After-from}

is_least : (c : After-from) → c.from.result ≡ least_of c.args.config.now
is_least c = c.from.ensures ∙ c.min-2.ensures ∙ ap₂ min (c.min.ensures ∙ ap₂ min c.least_of_kind-request.ensures c.least_of_kind-reply.ensures) c.least_of_kind-credit.ensures

pub returns-clause-meets : goal.returns-clause-meets
returns-clause-meets c = rw (is_least c) (least_of-meets c.args.config.now)

pub returns-clause-attained : goal.returns-clause-attained
returns-clause-attained c = rw (is_least c) (least_of-attained c.args.config.now)

pub returns-clause-positive : goal.returns-clause-positive
returns-clause-positive c = rw (is_least c) (least_of-positive c.args.config.now)

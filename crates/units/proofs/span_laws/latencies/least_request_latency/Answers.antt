use Rattle.std.proofs.Common.{◌≡◌, ◌∙◌}
use Rattle.links.specs.Latencies.{least_of_kind}
use Rattle.units.proofs.SpanLaws.Leasts.{request-meets, request-attained, request-positive}
use Rattle.units.proofs.span_laws.latencies.least_request_latency.Goals as goal
use Rattle.units.proofs.span_laws.latencies.least_request_latency.Goals.{After-from}

is_least : (c : After-from) → c.from.result ≡ least_of_kind c.args.config.now 0 c.args.config.now.request_latency
is_least c = c.from.ensures ∙ c.least_of_kind.ensures

pub returns-clause-meets : goal.returns-clause-meets
returns-clause-meets c = rw (is_least c) (request-meets c.args.config.now)

pub returns-clause-attained : goal.returns-clause-attained
returns-clause-attained c = rw (is_least c) (request-attained c.args.config.now)

pub returns-clause-positive : goal.returns-clause-positive
returns-clause-positive c = rw (is_least c) (request-positive c.args.config.now)

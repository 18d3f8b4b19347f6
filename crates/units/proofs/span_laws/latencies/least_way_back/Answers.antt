use Rattle.std.proofs.Common.{◌≡◌, ◌+◌, ap₂, ◌∙◌, min}
use Rattle.units.proofs.SpanLaws.Leasts.{way_back, answers-meet, answers-attained, answers-positive}
use Rattle.units.proofs.span_laws.latencies.least_way_back.Goals as goal
use Rattle.units.proofs.span_laws.latencies.least_way_back.Goals.{After-min}

is_least : (c : After-min) → c.min.result ≡ way_back c.args.config.now
is_least c =
    c.min.ensures
    ∙ ap₂ min (c.from-credit.ensures ∙ c.least_of_kind.ensures) (ap₂ (λ x y. x + 4 + y) c.from.ensures (c.from-2.ensures ∙ c.least_of_kind-2.ensures))

pub returns-clause-meets : goal.returns-clause-meets
returns-clause-meets c = rw (is_least c) (answers-meet c.args.config.now)

pub returns-clause-attained : goal.returns-clause-attained
returns-clause-attained c = rw (is_least c) (answers-attained c.args.config.now)

pub returns-clause-positive : goal.returns-clause-positive
returns-clause-positive c = rw (is_least c) (answers-positive c.args.config.now)

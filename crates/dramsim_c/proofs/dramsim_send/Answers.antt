use Rattle.std.proofs.Common.{subst}
use Rattle.sessions.specs.Sessions.{with_request}
use Rattle.dramsim_c.specs.CInterface.Channels.{HasPast}
use Rattle.dramsim_c.proofs.Statuses.{done, not-done}
use Rattle.dramsim_c.proofs.dramsim_send.Goals as goal

pub returns-clause-sent : goal.returns-clause-sent
returns-clause-sent c p h zero =
    subst (λ r. HasPast c.send.new.self (with_request p r)) c.to_request.ensures
    (done (HasPast c.send.new.self (with_request p c.to_request.result)) c.send.result c.status.result c.status.ensures (c.send.ensures.sent p h) zero)

pub returns-clause-left : goal.returns-clause-left
returns-clause-left c p h some = not-done (HasPast c.send.new.self p) c.send.result c.status.result c.status.ensures (c.send.ensures.left p h) some

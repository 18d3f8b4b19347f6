use Rattle.std.proofs.Common.{subst}
use Rattle.sessions.specs.Memories.{memory_refusal, with_request_of}
use Rattle.dramsim_c.specs.CInterface.Statuses.{IsStatus}
use Rattle.dramsim_c.specs.CInterface.Memories.{HasPasts}
use Rattle.dramsim_c.proofs.Statuses.{done, not-done, status-of}
use Rattle.dramsim_c.proofs.memory.dramsim_memory_send.Goals as goal

pub returns-clause-status : goal.returns-clause-status
returns-clause-status c m pasts is h other =
    subst (λ r. IsStatus (memory_refusal m pasts other r) c.status.result) c.to_request.ensures
    (status-of (memory_refusal m pasts other c.to_request.result) c.send.result c.status.result c.status.ensures (c.send.ensures.answer m pasts is h other))

pub returns-clause-sent : goal.returns-clause-sent
returns-clause-sent c m pasts is h zero =
    subst (λ r. HasPasts c.send.new.self (with_request_of m.config pasts r)) c.to_request.ensures
    (done (HasPasts c.send.new.self (with_request_of m.config pasts c.to_request.result)) c.send.result c.status.result c.status.ensures (c.send.ensures.sent m pasts is h) zero)

pub returns-clause-left : goal.returns-clause-left
returns-clause-left c pasts h some = not-done (HasPasts c.send.new.self pasts) c.send.result c.status.result c.status.ensures (c.send.ensures.left pasts h) some

use Rattle.std.proofs.Common.{◌∙◌, ap}
use Rattle.sessions.specs.Sessions.{end_refusal}
use Rattle.sessions.specs.Memories.{IsOpenMemory}
use Rattle.sessions.specs.declared.memory_session.memory.MemorySession.{MemorySession}
use Rattle.dramsim_c.specs.CInterface.Statuses.{status}
use Rattle.dramsim_c.specs.CInterface.Memories.{HasPasts, StandsAt, IsClosed}
use Rattle.dramsim_c.proofs.Statuses.{done, kept, not-memory, lost}
use Rattle.dramsim_c.proofs.memory.dramsim_memory_run.Goals as goal

pub returns-clause-done : goal.returns-clause-done
returns-clause-done c pasts h zero = done (HasPasts c.run.new.self pasts) c.run.result c.status.result c.status.ensures (c.run.ensures.done pasts h) zero

pub returns-clause-left : goal.returns-clause-left
returns-clause-left c pasts h other =
    kept (HasPasts c.run.new.self pasts) c.run.result c.status.result c.status.ensures (c.run.ensures.done pasts h) (c.run.ensures.left pasts h) other

pub returns-clause-stays : goal.returns-clause-stays
returns-clause-stays c cycle h some other = not-memory (StandsAt c.run.new.self cycle) c.run.result c.status.result c.status.ensures (c.run.ensures.stays cycle h) some other

pub returns-clause-config : goal.returns-clause-config
returns-clause-config c s of other = c.run.ensures.config s of (λ same. other (c.status.ensures ∙ ap status same))

pub returns-clause-lost : goal.returns-clause-lost
returns-clause-lost c one =
    let memory = c.args.memory.now in
    lost IsOpenMemory (IsClosed c.run.new.self) memory.is_open memory.handle.value (λ (m : MemorySession). end_refusal m.cycle c.args.until) c.run.result c.status.result c.requires.well
    c.run.ensures.closed (λ m is _. c.run.ensures.answer m is) c.run.ensures.lost c.status.ensures one

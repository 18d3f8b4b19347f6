use Rattle.dramsim_c.specs.CInterface.Channels.{HasPast, StandsAt}
use Rattle.dramsim_c.proofs.Statuses.{done, kept, not-memory}
use Rattle.dramsim_c.proofs.dramsim_run.Goals as goal

pub returns-clause-done : goal.returns-clause-done
returns-clause-done c p h zero = done (HasPast c.run.new.self p) c.run.result c.status.result c.status.ensures (c.run.ensures.done p h) zero

pub returns-clause-left : goal.returns-clause-left
returns-clause-left c p h other = kept (HasPast c.run.new.self p) c.run.result c.status.result c.status.ensures (c.run.ensures.done p h) (c.run.ensures.left p h) other

pub returns-clause-stays : goal.returns-clause-stays
returns-clause-stays c cycle h some other = not-memory (StandsAt c.run.new.self cycle) c.run.result c.status.result c.status.ensures (c.run.ensures.stays cycle h) some other

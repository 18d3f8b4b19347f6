use Rattle.sessions.proofs.Kept.{ran-open}
use Rattle.sessions.proofs.memory_session.memory.MemorySession.run.Goals as goal

pub returns-in-None-clause-open : goal.returns-in-None-clause-open
returns-in-None-clause-open c = ran-open _ _ c.requires.open.pasts c.advance.result (c.advance.ensures.done c.requires.open.pasts c.requires.open.is_memory)

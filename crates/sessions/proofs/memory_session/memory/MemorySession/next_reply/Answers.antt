use Rattle.sessions.proofs.Next.{next-reply, no-reply}
use Rattle.sessions.proofs.memory_session.memory.MemorySession.next_reply.Goals as goal

pub take_reply-requires : goal.take_reply-requires
take_reply-requires c =
    record { «open» = c.requires.open; inside = ((c.in-Some.ensures {u = tt}) c.requires.open.pasts c.requires.open.is_memory).is_below }

pub returns-in-Some-clause-next : goal.returns-in-Some-clause-next
returns-in-Some-clause-next c pasts h =
    next-reply _ _ pasts c.args.self.now.cycle _ _ c.take_reply.result h.count_is ((c.in-Some.ensures {u = tt}) pasts h) (c.take_reply.ensures.next pasts h)

pub returns-in-None-clause-next : goal.returns-in-None-clause-next
returns-in-None-clause-next c pasts h = no-reply _ _ pasts c.args.self.now.cycle h.count_is ((c.in-None.ensures {u = tt}) pasts h)

use Rattle.sessions.proofs.Answering.{held-reply, reply-gone}
use Rattle.sessions.proofs.channel_session.session.Session.pop_reply.Goals as goal

pub returns-clause-next : goal.returns-clause-next
returns-clause-next c p h = held-reply c.args.self.now p c.take_next.result h c.take_next.ensures.next

pub returns-clause-taken : goal.returns-clause-taken
returns-clause-taken c p h =
    reply-gone c.args.self.now c.take_next.new.self p c.take_next.result h c.take_next.ensures.front

use Rattle.sessions.specs.Sessions.{with_reply}
use Rattle.sessions.proofs.channel_session.session.Session.next_reply.Goals as goal

pub returns-clause-open : goal.returns-clause-open
returns-clause-open c open_before = record {
  past = with_reply open_before.past c.pop_reply.result;
  is_session = c.pop_reply.ensures.taken open_before.past open_before.is_session;
}

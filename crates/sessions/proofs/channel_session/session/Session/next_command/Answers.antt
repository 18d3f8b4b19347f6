use Rattle.sessions.specs.Sessions.{with_command}
use Rattle.sessions.proofs.channel_session.session.Session.next_command.Goals as goal

pub returns-clause-open : goal.returns-clause-open
returns-clause-open c open_before = record {
  past = with_command open_before.past c.pop_command.result;
  is_session = c.pop_command.ensures.taken open_before.past open_before.is_session;
}

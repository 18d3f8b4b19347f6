use Rattle.std.proofs.Common.{sym, subst}
use Rattle.sessions.specs.Sessions.{IsSession, with_command}
use Rattle.sessions.specs.declared.channel_session.session.Session.{Session}
use Rattle.dramsim_c.specs.CInterface.Channels.{HasPast}
use Rattle.dramsim_c.specs.CInterface.Kept.{IsThere}
use Rattle.dramsim_c.proofs.dramsim_next_command.Goals as goal

pub returns-in-Some-clause-taken : goal.returns-in-Some-clause-taken
returns-in-Some-clause-taken c s p is h =
    let next = c.in-Some.ensures {u = tt} in
    subst (λ o. HasPast c.next_command.new.self (with_command p o)) (next.next s p is h)
    (next.taken p (subst (IsThere (λ (x : Session). IsSession x p)) (sym is) h))

pub returns-in-None-clause-taken : goal.returns-in-None-clause-taken
returns-in-None-clause-taken c s p is h =
    let next = c.in-None.ensures {u = tt} in
    subst (λ o. HasPast c.next_command.new.self (with_command p o)) (next.next s p is h)
    (next.taken p (subst (IsThere (λ (x : Session). IsSession x p)) (sym is) h))

use Rattle.sessions.proofs.channel_session.session.Session.run.Goals as goal

pub returns-clause-open : goal.returns-clause-open
returns-clause-open c =
    let open_before = c.requires.open in
    record { past = open_before.past; is_session = (c.in_ok-advance.ensures {u = tt}).done open_before.past open_before.is_session }

pub returns-clause-done : goal.returns-clause-done
returns-clause-done c = (c.in_ok-advance.ensures {u = tt}).done

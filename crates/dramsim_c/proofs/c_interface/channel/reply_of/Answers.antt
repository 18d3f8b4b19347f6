use Rattle.std.proofs.Common.{◌≡◌, ◌∙◌, Some, ap, subst}
use Rattle.std.specs.Prelude.{option_map}
use Rattle.sessions.specs.Sessions.{IsSession, core_of, with_reply}
use Rattle.dramsim_c.specs.CInterface.Rows.{message_row, reply_row}
use Rattle.dramsim_c.proofs.c_interface.channel.reply_of.Goals as goal

pub returns-in-Some-clause-next : goal.returns-in-Some-clause-next
returns-in-Some-clause-next c p h =
    let reply = c.in-Some.reply in
    let given = c.in-Some.ensures {u = tt} in
    let row : c.of.result ≡ reply_row p.config reply = c.of.ensures ∙ ap (λ core. message_row core reply) (c.core_of.ensures ∙ ap (λ s. core_of s reply) (given.taken p h).config_is) in
    ap Some row ∙ ap (option_map (reply_row p.config)) (given.next p h)

pub returns-in-Some-clause-taken : goal.returns-in-Some-clause-taken
returns-in-Some-clause-taken c p h =
    let given = c.in-Some.ensures {u = tt} in
    subst (λ o. IsSession c.next_reply.new.self (with_reply p o)) (given.next p h) (given.taken p h)

pub returns-in-Some-clause-now : goal.returns-in-Some-clause-now
returns-in-Some-clause-now c = (c.in-Some.ensures {u = tt}).now

pub returns-in-Some-clause-open : goal.returns-in-Some-clause-open
returns-in-Some-clause-open c = (c.in-Some.ensures {u = tt}).«open»

pub returns-in-None-clause-next : goal.returns-in-None-clause-next
returns-in-None-clause-next c p h = ap (option_map (reply_row p.config)) ((c.in-None.ensures {u = tt}).next p h)

pub returns-in-None-clause-taken : goal.returns-in-None-clause-taken
returns-in-None-clause-taken c p h =
    let given = c.in-None.ensures {u = tt} in
    subst (λ o. IsSession c.next_reply.new.self (with_reply p o)) (given.next p h) (given.taken p h)

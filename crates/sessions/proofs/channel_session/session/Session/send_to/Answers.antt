use Rattle.std.proofs.lemmas.Result.{IfErr-weaker}
use Rattle.sessions.specs.Keeps.{steps_of}
use Rattle.sessions.proofs.Answering.{waits-are, answer-refused, answer-taken, taken-session, taken-open}
use Rattle.sessions.proofs.channel_session.session.Session.send_to.Goals as goal

pub returns-in-Some-clause-answer : goal.returns-in-Some-clause-answer
returns-in-Some-clause-answer c p h =
    let session = c.args.self.now in
    let waits = waits-are session p h c.waiting_count-waits.result (c.waiting_count-waits.ensures p.config p.channel (steps_of p.config p.channel p.sent session.cycle) h.keeps.mail h.keeps.stands) in
    answer-refused _ session p c.waiting_count-waits.result c.args.request.now c.in-Some.fault waits (c.in-Some.ensures {u = tt})

pub returns-in-None-clause-answer : goal.returns-in-None-clause-answer
returns-in-None-clause-answer c p h =
    let session = c.args.self.now in
    let waits = waits-are session p h c.waiting_count-waits.result (c.waiting_count-waits.ensures p.config p.channel (steps_of p.config p.channel p.sent session.cycle) h.keeps.mail h.keeps.stands) in
    answer-taken _ session p c.waiting_count-waits.result c.args.request.now c.take.result waits (c.in-None.ensures {u = tt}) c.take.ensures.memory

pub returns-in-None-clause-sent : goal.returns-in-None-clause-sent
returns-in-None-clause-sent c p h =
    let session = c.args.self.now in
    let waits = waits-are session p h c.waiting_count-waits.result (c.waiting_count-waits.ensures p.config p.channel (steps_of p.config p.channel p.sent session.cycle) h.keeps.mail h.keeps.stands) in
    taken-session _ session c.take.new.self p c.waiting_count-waits.result c.args.request.now c.take.result h waits (c.in-None.ensures {u = tt}) c.take.ensures.taken

pub returns-in-None-clause-open : goal.returns-in-None-clause-open
returns-in-None-clause-open c h =
    let session = c.args.self.now in
    let p = h.past in
    let waits = waits-are session p h.is_session c.waiting_count-waits.result (c.waiting_count-waits.ensures p.config p.channel (steps_of p.config p.channel p.sent session.cycle) h.is_session.keeps.mail h.is_session.keeps.stands) in
    taken-open _ session c.take.new.self p c.waiting_count-waits.result c.args.request.now c.take.result h.is_session waits (c.in-None.ensures {u = tt}) c.take.ensures.taken (c.take.ensures.left p h.is_session)

pub returns-in-None-clause-left : goal.returns-in-None-clause-left
returns-in-None-clause-left c = c.take.ensures.left

pub returns-in-None-clause-same : goal.returns-in-None-clause-same
returns-in-None-clause-same c = IfErr-weaker c.take.result _ _ (λ fault memory other. absurd (other memory)) c.take.ensures.memory

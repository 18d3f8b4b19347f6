use Rattle.std.proofs.Common.{ap, Some, None, option_map}
use Rattle.sim_base.specs.declared.message.Message.{Message}
use Rattle.sessions.proofs.Answering.{held-reply}
use Rattle.sessions.proofs.channel_session.session.Session.reply_arrival.Goals as goal

pub returns-in-Some : goal.returns-in-Some
returns-in-Some c p h = ap (option_map (λ (x : Message). x.arrival)) (held-reply c.args.self.now p (Some c.in-Some.reply) h (c.in-Some.ensures {u = tt}))

pub returns-in-None : goal.returns-in-None
returns-in-None c p h = ap (option_map (λ (x : Message). x.arrival)) (held-reply c.args.self.now p None h (c.in-None.ensures {u = tt}))

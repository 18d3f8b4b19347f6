use Rattle.std.proofs.Common.{◌∙◌}
use Rattle.sessions.specs.Keeps.{steps_of}
use Rattle.sessions.proofs.Answering.{stats-all}
use Rattle.sessions.proofs.channel_session.session.Session.stats.Goals as goal

pub returns : goal.returns
returns c p h =
    let session = c.args.self.now in
    c.stats.ensures p.config p.channel (steps_of p.config p.channel p.sent session.cycle) h.keeps.mail h.keeps.stands ∙ stats-all session p h

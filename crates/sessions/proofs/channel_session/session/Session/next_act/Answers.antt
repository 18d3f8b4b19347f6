use Rattle.std.proofs.Common.{◌∙◌, sym, ap, subst}
use Rattle.sessions.specs.Ahead.{first_arrival, IsNextAct}
use Rattle.sim_base.specs.Earlier.{earlier}
use Rattle.sessions.specs.Keeps.{steps_of}
use Rattle.sessions.proofs.Advancing.{keeps-at}
use Rattle.sessions.proofs.Ahead.{next-act}
use Rattle.sessions.proofs.channel_session.session.Session.next_act.Goals as goal

pub next_act-command-requires : goal.next_act-command-requires
next_act-command-requires c =
    let session = c.args.self.now in
    let p = c.requires.open.past in
    let k = c.requires.open.is_session.keeps in
    record {
      s = p.config;
      channel = p.channel;
      steps = steps_of p.config p.channel p.sent session.cycle;
      mail = k.mail;
      stands = k.stands;
      at = keeps-at p.config p.channel session.cycle p.sent;
    }

pub returns-clause-next : goal.returns-clause-next
returns-clause-next c p h =
    let session = c.args.self.now in
    let command = c.next_act-command.result in
    let arrival = c.first_arrival.ensures ∙ ap first_arrival c.deref.ensures.value in
    subst (IsNextAct p session.cycle) (sym (c.earlier.ensures ∙ ap (earlier command) arrival))
    (next-act session p h command
    (c.next_act-command.ensures.first p.config p.channel (steps_of p.config p.channel p.sent session.cycle) h.keeps.mail h.keeps.stands (keeps-at p.config p.channel session.cycle p.sent)))

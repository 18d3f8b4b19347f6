use Rattle.std.proofs.Common.{◌≡◌, ◌∙◌, refl, sym}
use Rattle.sessions.proofs.Answering.{first-session}
use Rattle.sessions.proofs.channel_session.session.Session.start.Goals as goal

pub returns-clause-opened : goal.returns-clause-opened
returns-clause-opened c =
    let same : c.in_ok-copied.copied ≡ c.args.config.now = c.in_ok-copied.ensures {u = tt} in
    first-session _ c.args.config.now c.args.number
    (record {
      config_is = same;
      number_is = refl;
      cycle_is = refl;
      cores = sym c.in_ok-firsts.firsts.ok.0 ∙ (c.in_ok-firsts.ensures {u = tt}).len ∙ c.from-cores.ensures;
      stands = c.in_ok-start.ensures {u = tt};
      coming_are = c.new.ensures.items;
      commands_are = c.new-2.ensures.none;
      replies_are = c.in_ok-new.ensures {u = tt};
      has_commands = c.new-2.ensures.within;
    })

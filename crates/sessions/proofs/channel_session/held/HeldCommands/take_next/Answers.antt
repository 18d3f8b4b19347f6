use Rattle.std.proofs.Common.{◌+◌, ◌++◌, ◌∙◌, drop, sym, ap}
use Rattle.std.specs.Prelude.{option_to_list}
use Rattle.sessions.proofs.Lists.{drop-front}
use Rattle.sessions.proofs.channel_session.held.HeldCommands.take_next.Goals as goal

pub returns-clause-front : goal.returns-clause-front
returns-clause-front c =
    let held = c.args.self.now in
    drop-front held.taken held.all ∙ ap (λ o. option_to_list o ++ drop (held.taken + 1) held.all) (sym c.get.ensures)

use Rattle.std.proofs.Common.{[], ◌∷◌, ◌++◌, Some, refl, sym, subst}
use Rattle.channel_step.specs.Past.{commands_after}
use Rattle.channel_step.specs.Channels.{StandsFor}
use Rattle.channel_step.specs.Readied.{as_issued}
use Rattle.channel_step.specs.declared.channel.Channel.{Channel}
use Rattle.channel_step.proofs.Issuing.{command-owed, counted-fits, issued-stands}
use Rattle.channel_step.proofs.channel.Channel.issue.Goals as goal

pub note_if_ref-requires-clause-due : goal.note_if_ref-requires-clause-due
note_if_ref-requires-clause-due c = let p = c.requires.ready in command-owed c.args.self.now p.past c.args.command c.args.hit p.is_readied

pub count-requires-clause-fits : goal.count-requires-clause-fits
count-requires-clause-fits c =
    let p = c.requires.ready in
    counted-fits c.args.self.now p.past c.args.command c.args.hit p.is_readied c.requires.early

pub returns-clause-stands : goal.returns-clause-stands
returns-clause-stands c past h =
    let x = c.args.self.now in
    let history = commands_after past in
    let row = as_issued past.channel x.cycle c.args.command in
    subst (λ (z : Channel). StandsFor z past.config past.channel (past.steps ++ Some c.args.command ∷ []) past.mail) (sym c.count.ensures)
    (issued-stands x past c.args.command c.args.hit c.note_if_ref.new.refresh h
    (c.note_if_ref.ensures past.config history row refl h.refreshes_stand))

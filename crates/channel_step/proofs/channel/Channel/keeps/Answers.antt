use Rattle.std.proofs.Common.{sym, subst}
use Rattle.bank_ready.specs.Stands.{rank_count}
use Rattle.channel_step.specs.Channels.{IsNextCommand, NextCommandIsFor}
use Rattle.channel_step.proofs.channel.Channel.keeps.Goals as goal

pub keeps_found-requires-clause-found : goal.keeps_found-requires-clause-found
keeps_found-requires-clause-found c = let x = c.args.self.now in subst (NextCommandIsFor (rank_count x.banks) x.queue.log) c.in-Known.is c.requires.next_command

pub returns-in-Known : goal.returns-in-Known
returns-in-Known c keeps s history earlier more known =
    let x = c.args.self.now in
    subst (IsNextCommand s history x.queue x.cycle) (sym c.in-Known.is)
    (c.keeps_found.ensures keeps s history earlier more (subst (IsNextCommand s history earlier x.cycle) c.in-Known.is known))

use Rattle.std.proofs.Common.{◌≡◌, Some, sym, ap, subst, ◌∙◌}
use Rattle.std.specs.Option.{IfSome}
use Rattle.bank_ready.specs.Stands.{rank_count}
use Rattle.channel_step.specs.FrFcfs.Choices.{IsFor}
use Rattle.channel_step.specs.FrFcfs.Offers.{going}
use Rattle.channel_step.specs.Channels.{IsNextCommand}
use Rattle.channel_step.specs.declared.next_command.NextCommand.TheVariants.{Known}
use Rattle.channel_step.proofs.Foreseen.{next_command-kept}
use Rattle.channel_step.proofs.channel.Channel.keeps_found.Goals as goal

pub stays-requires-clause-need : goal.stays-requires-clause-need
stays-requires-clause-need c =
    let x = c.args.self.now in
    subst (λ found. IfSome found (λ n. IsFor (rank_count x.banks) x.queue.log n.1)) c.in-Some.is c.requires.found

pub returns-in-Some : goal.returns-in-Some
returns-in-Some c keeps s history earlier more known =
    let cycle = c.in-Some.next.0 in
    let need = c.in-Some.next.1 in
    let x = c.args.self.now in
    let found_is : Known c.args.found ≡ Known (Some (cycle, need)) = ap Known c.in-Some.is in
    subst (IsNextCommand s history x.queue x.cycle) (sym found_is)
    (next_command-kept s history earlier x.queue c.args.before.places x.cycle cycle need more.earlier_is
    (λ command needs. c.stays.ensures keeps s history more.banks_stand more.candidates_stand more.high_is earlier command more.earlier_is (more.went ∙ ap (going c.args.before.accesses) more.earlier_is) needs)
    (subst (IsNextCommand s history earlier x.cycle) found_is known))

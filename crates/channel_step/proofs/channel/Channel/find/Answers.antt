use Rattle.std.proofs.Common.{◌≡◌, Some, None, ap, subst, ◌∙◌, arith}
use Rattle.channel_step.specs.FrFcfs.Choices.{HasPlace}
use Rattle.channel_step.specs.Channels.{IsNextCommand}
use Rattle.channel_step.specs.declared.next_command.NextCommand.TheVariants.{Known}
use Rattle.channel_step.proofs.channel.Channel.find.Goals as goal

pub next-requires-clause-places : goal.next-requires-clause-places
next-requires-clause-places c = c.requires.places

pub next-requires-clause-banks : goal.next-requires-clause-banks
next-requires-clause-banks c = c.requires.banks

pub next-requires-clause-ranks : goal.next-requires-clause-ranks
next-requires-clause-ranks c = c.requires.ranks

pub next-requires-clause-groups : goal.next-requires-clause-groups
next-requires-clause-groups c = c.requires.groups

pub returns-in-Known-None : goal.returns-in-Known-None
returns-in-Known-None c s history stand known l =
    let x = c.args.self.now in
    let i = c.in-Known-None in
    let is : i.field-0 ≡ None = rw i.is at i.field-0-is in
    let none = subst (IsNextCommand s history x.queue x.cycle) (i.is ∙ ap Known is) known in
    (λ t k. none t (omega arith), tt)

pub returns-in-Known-Some : goal.returns-in-Known-Some
returns-in-Known-Some c s history stand known l =
    let x = c.args.self.now in
    let i = c.in-Known-Some in
    let is : i.field-0 ≡ Some (i.cycle, i.need) = rw i.is at i.field-0-is in
    let then = subst (IsNextCommand s history x.queue x.cycle) (i.is ∙ ap Known is) known in (
      record {
        from_now = c.if-now-cycle.true;
        then_is = then.then_is;
        there_is = then.there_is;
        none_before = λ t k. then.none_before t (omega arith);
      },
      then.place,
    )

pub returns-in_default : goal.returns-in_default
returns-in_default c s history stand known l =
    let log = c.args.self.now.queue.log in
    (c.next.ensures.next s history stand, subst (λ n. HasPlace n log c.next.result) stand.banks_stand.ranks (c.next.ensures.place s history stand))

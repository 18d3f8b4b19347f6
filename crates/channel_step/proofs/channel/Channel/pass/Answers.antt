use Rattle.std.proofs.Common.{length, sym, subst, arith}
use Rattle.channel_step.specs.Channels.{idle_after}
use Rattle.channel_step.specs.Readied.{HasCounted}
use Rattle.channel_step.specs.declared.channel.Channel.{Channel}
use Rattle.channel_step.proofs.Draining.{counts-drains}
use Rattle.channel_step.proofs.Issuing.{none_due-then}
use Rattle.channel_step.proofs.Skipping.{none_due, counted-then, counted-then_fits}
use Rattle.channel_step.proofs.channel.Channel.pass.Goals as goal

pub count_through-requires-clause-order : goal.count_through-requires-clause-order
count_through-requires-clause-order c = let p = c.requires.serves in omega (arith, p.is_in.cycle_is, p.serves.from_now)

pub count_through-requires-clause-refreshing : goal.count_through-requires-clause-refreshing
count_through-requires-clause-refreshing c =
    let p = c.requires.serves in
    let x = c.args.self.now in
    sym (none_due x.refresh x.cycle c.args.cycle (omega (arith, p.is_in.cycle_is, p.serves.from_now)) (none_due-then x p.past c.args.cycle p.is_in p.serves))

pub count_through-requires-clause-drains : goal.count_through-requires-clause-drains
count_through-requires-clause-drains c = let p = c.requires.serves in counts-drains c.args.self.now p.past p.is_in

pub count_through-requires-clause-fits : goal.count_through-requires-clause-fits
count_through-requires-clause-fits c =
    let p = c.requires.serves in
    let x = c.args.self.now in
    counted-then_fits x p.past c.args.cycle p.is_in (omega (arith, p.is_in.cycle_is, p.serves.from_now)) c.requires.early
    (none_due-then x p.past c.args.cycle p.is_in p.serves)

pub returns-clause-counted : goal.returns-clause-counted
returns-clause-counted c past h serves =
    let x = c.args.self.now in
    subst (λ (d : Channel). HasCounted d (idle_after past (length past.steps) c.args.cycle)) (sym c.count_through.ensures)
    (counted-then x past c.args.cycle h (omega (arith, h.cycle_is, serves.from_now)) c.requires.early (none_due-then x past c.args.cycle h serves))

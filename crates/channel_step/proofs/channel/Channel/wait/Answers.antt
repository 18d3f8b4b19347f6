use Rattle.std.proofs.Common.{length, sym, subst, ◌∙◌, arith}
use Rattle.channel_step.specs.Channels.{IsInCycle, idle_after}
use Rattle.channel_step.specs.declared.channel.Channel.{Channel}
use Rattle.channel_step.proofs.Skipping.{skips-first_fits, skips-not_due, waited-none, skips-none_due, none_due}
use Rattle.channel_step.proofs.Draining.{counts-drains}
use Rattle.channel_step.proofs.channel.Channel.wait.Goals as goal

pub skip-requires-clause-refreshing : goal.skip-requires-clause-refreshing
skip-requires-clause-refreshing c =
    sym (none_due c.args.self.now.refresh c.args.self.now.cycle c.args.until (omega (arith, c.if-self-until.true)) (sym c.is_due_by.ensures ∙ c.if-is_due_by.false))

pub skip-requires-clause-drains : goal.skip-requires-clause-drains
skip-requires-clause-drains c = let p = c.requires.in_cycle in counts-drains c.args.self.now p.past p.is_in

pub skip-requires-clause-fits : goal.skip-requires-clause-fits
skip-requires-clause-fits c =
    let p = c.requires.in_cycle in
    let x = c.args.self.now in
    skips-first_fits x p.past c.args.until c.args.until
    (skips-none_due x p.past c.args.until p.is_in c.requires.span c.requires.until (sym c.is_due_by.ensures ∙ c.if-is_due_by.false))

pub returns-then-self-until-clause-in_cycle : goal.returns-then-self-until-clause-in_cycle
returns-then-self-until-clause-in_cycle c past h =
    let x = c.args.self.now in
    subst (λ (d : Channel). IsInCycle d (idle_after past (length past.steps) c.args.until)) (sym c.skip.ensures)
    (skips-not_due x past c.args.until c.args.until
    (skips-none_due x past c.args.until h c.requires.span c.requires.until (sym c.is_due_by.ensures ∙ c.if-is_due_by.false)) (omega arith))

pub returns-else-self-until-clause-in_cycle : goal.returns-else-self-until-clause-in_cycle
returns-else-self-until-clause-in_cycle c past h =
    waited-none c.args.self.now past c.args.until (omega (arith, c.if-self-until.false, c.requires.span)) h

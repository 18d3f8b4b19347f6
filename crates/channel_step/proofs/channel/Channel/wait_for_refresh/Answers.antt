use Rattle.std.proofs.Common.{◌≡◌, ◌<◌, ◌≤◌, length, sym, ap, subst, ◌∙◌, arith}
use Rattle.std.proofs.lemmas.Bool.{lt-leb, le-leb}
use Rattle.std.specs.Prelude.{is_some}
use Rattle.bank_ready.specs.Refreshes.{lowest_owed}
use Rattle.statistics.specs.Channels.{ChannelFits}
use Rattle.channel_step.specs.Past.{past_of}
use Rattle.channel_step.specs.Channels.{IsInCycle, CountsDrains, skipped, idle_after}
use Rattle.channel_step.specs.declared.channel.Channel.{Channel}
use Rattle.channel_step.proofs.Skipping.{skipped_to, skips-first_fits, skips-second, skips-second_fits, skips-in_cycle, skips-not_due, skips-due, skips-due_fits, waited-none}
use Rattle.channel_step.proofs.Draining.{counts-drains}
use Rattle.channel_step.proofs.channel.Channel.wait_for_refresh.Goals as goal
use Rattle.channel_step.proofs.channel.Channel.wait_for_refresh.Goals.{then-self-due, else-self-due}

pub skip-requires-clause-refreshing : goal.skip-requires-clause-refreshing
skip-requires-clause-refreshing c =
    let now = c.args.self.now.cycle in
    let due = c.due_from-due.ensures in
    let within = due.within in
    sym (due.due now (omega arith) (omega arith) ∙ lt-leb c.due_from-due.result now c.if-self-due.true)

pub skip-requires-clause-fits : goal.skip-requires-clause-fits
skip-requires-clause-fits c =
    let p = c.requires.in_cycle in
    let due = c.due_from-due.ensures in
    skips-first_fits c.args.self.now p.past c.args.until c.due_from-due.result
    (record { in_cycle = p.is_in; from_now = due.from_now; within = due.within; early = c.requires.until; dues = due.due })

pub skip-requires-then-due-until-clause-refreshing : goal.skip-requires-then-due-until-clause-refreshing
skip-requires-then-due-until-clause-refreshing c =
    let due = c.due_from-due.ensures in
    let from = due.from_now in
    let at = c.due_from-due.result in
    elim c.if-self-due.branch [
      | then-self-due w ↦
          let here : w.skip.new.self.cycle ≡ at = ap (λ (d : Channel). d.cycle) w.skip.ensures in
          let same = ap (λ (d : Channel). d.refresh) w.skip.ensures in
          let is = ap (λ (d : Channel). is_some (lowest_owed d.refresh d.cycle)) (w.self-is ∙ w.skip.ensures) in
          sym (is ∙ due.due at (omega arith) c.if-due-until.true ∙ le-leb at at (omega arith))
      | else-self-due w ↦
          let now = c.args.self.now.cycle in
          let is = ap (λ (d : Channel). is_some (lowest_owed d.refresh d.cycle)) w.self-is in
          let late : at ≤ now = omega (arith, w.if-self-due.false) in
          let before : now < c.args.until = omega (arith, c.if-due-until.true) in
          sym (is ∙ due.due now (omega arith) before ∙ le-leb at now late)
    ]

pub skip-requires-then-due-until-clause-until : goal.skip-requires-then-due-until-clause-until
skip-requires-then-due-until-clause-until c =
    let due = c.due_from-due.ensures in
    elim c.if-self-due.branch [
      | then-self-due w ↦ omega (arith, due.within, ap (λ (d : Channel). d.cycle) (w.self-is ∙ w.skip.ensures))
      | else-self-due w ↦ omega (arith, c.requires.span, ap (λ (d : Channel). d.cycle) w.self-is)
    ]

pub skip-requires-then-due-until-clause-fits : goal.skip-requires-then-due-until-clause-fits
skip-requires-then-due-until-clause-fits c =
    let p = c.requires.in_cycle in
    let due = c.due_from-due.ensures in
    elim c.if-self-due.branch [
      | then-self-due w ↦
          subst (λ (d : Channel). ChannelFits (skipped d c.args.until)) (sym (w.self-is ∙ w.skip.ensures))
          (skips-second_fits c.args.self.now p.past c.args.until c.due_from-due.result
          (record { in_cycle = p.is_in; from_now = due.from_now; within = due.within; early = c.requires.until; dues = due.due }))
      | else-self-due w ↦
          subst (λ (d : Channel). ChannelFits (skipped d c.args.until)) (sym w.self-is)
          (skips-due_fits c.args.self.now p.past c.args.until c.due_from-due.result
          (record { in_cycle = p.is_in; from_now = due.from_now; within = due.within; early = c.requires.until; dues = due.due }) (omega (arith, w.if-self-due.false)))
    ]

pub skip-requires-clause-drains : goal.skip-requires-clause-drains
skip-requires-clause-drains c = let p = c.requires.in_cycle in counts-drains c.args.self.now p.past p.is_in

pub skip-requires-then-due-until-clause-drains : goal.skip-requires-then-due-until-clause-drains
skip-requires-then-due-until-clause-drains c =
    let p = c.requires.in_cycle in
    let due = c.due_from-due.ensures in
    elim c.if-self-due.branch [
      | then-self-due w ↦
          subst CountsDrains (sym (w.self-is ∙ w.skip.ensures))
          (counts-drains _ (past_of p.past.config p.past.channel _ p.past.mail) (skips-second c.args.self.now p.past c.args.until c.due_from-due.result
          (record { in_cycle = p.is_in; from_now = due.from_now; within = due.within; early = c.requires.until; dues = due.due })))
      | else-self-due w ↦ subst CountsDrains (sym w.self-is) (counts-drains c.args.self.now p.past p.is_in)
    ]

pub returns-then-self-until-clause-in_cycle : goal.returns-then-self-until-clause-in_cycle
returns-then-self-until-clause-in_cycle c past h = waited-none c.args.self.now past c.args.until c.if-self-until.true h

pub returns-then-due-until-clause-in_cycle : goal.returns-then-due-until-clause-in_cycle
returns-then-due-until-clause-in_cycle c past h =
    let due = c.due_from-due.ensures in
    subst (λ (e : Channel). IsInCycle e (idle_after past (length past.steps) c.args.until)) (sym c.skip-then-due-until.ensures)
    (elim c.if-self-due.branch [
      | then-self-due w ↦
          subst (λ (d : Channel). IsInCycle (skipped_to d c.args.until) (idle_after past (length past.steps) c.args.until)) (sym (w.self-is ∙ w.skip.ensures))
          (skips-in_cycle c.args.self.now past c.args.until c.due_from-due.result
          (record { in_cycle = h; from_now = due.from_now; within = due.within; early = c.requires.until; dues = due.due }))
      | else-self-due w ↦
          subst (λ (d : Channel). IsInCycle (skipped_to d c.args.until) (idle_after past (length past.steps) c.args.until)) (sym w.self-is)
          (skips-due c.args.self.now past c.args.until c.due_from-due.result
          (record { in_cycle = h; from_now = due.from_now; within = due.within; early = c.requires.until; dues = due.due }) (omega (arith, w.if-self-due.false)))
    ])

pub returns-else-due-until-clause-in_cycle : goal.returns-else-due-until-clause-in_cycle
returns-else-due-until-clause-in_cycle c past h =
    let due = c.due_from-due.ensures in
    elim c.if-self-due.branch [
      | then-self-due w ↦
          subst (λ (d : Channel). IsInCycle d (idle_after past (length past.steps) c.args.until)) (sym (w.self-is ∙ w.skip.ensures))
          (skips-not_due c.args.self.now past c.args.until c.due_from-due.result
          (record { in_cycle = h; from_now = due.from_now; within = due.within; early = c.requires.until; dues = due.due }) (omega (arith, c.if-due-until.false)))
      | else-self-due w ↦
          subst (λ (d : Channel). IsInCycle d (idle_after past (length past.steps) c.args.until)) (sym w.self-is)
          (waited-none c.args.self.now past c.args.until (omega (arith, c.if-due-until.false, w.if-self-due.false, c.requires.span)) h)
    ]

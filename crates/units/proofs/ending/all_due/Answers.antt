use Rattle.std.proofs.Common.{◌≡◌, ap, map, subst, ◌∙◌, arith}
use Rattle.sim_base.specs.History.{below}
use Rattle.sim_base.specs.Scheduling.{due}
use Rattle.laws.specs.Commands.{history_of, channel_steps_of}
use Rattle.laws.proofs.Legal.{length-channel_steps_of}
use Rattle.units.specs.SpanLaws.Mail.{mail_before}
use Rattle.sim_base.specs.declared.message.Unit.TheVariants as unit
use Rattle.units.proofs.Counted.{places-then}
use Rattle.units.proofs.ending.all_due.Goals as goal

pub loop-rank-preserved : goal.loop-rank-preserved
loop-rank-preserved c =
    let machine = c.args.machine.now in
    let s = machine.config in
    let traces = machine.traces.items in
    let now = c.args.now in
    let number = c.args.number in
    let h = history_of s traces now number in
    let l = c.loop-rank in
    let is = c.due.ensures s number (channel_steps_of s traces now number) (mail_before s traces now (unit.Channel number) now) c.requires.stands
    ∙ ap (due s l.rank h) (length-channel_steps_of s traces now number) in
    c.in_ok-push.ensures.items ∙ places-then (λ rank. due s rank h now) l.rank l.all.items _ l.invariant is

pub due-requires : goal.due-requires
due-requires c =
    let s = c.args.machine.now.config in
    let traces = c.args.machine.now.traces.items in
    let number = c.args.number in
    record {
      s = s;
      channel = number;
      steps = channel_steps_of s traces c.args.now number;
      mail = mail_before s traces c.args.now (unit.Channel number) c.args.now;
      stands = c.requires.stands;
      rank_in = c.loop-rank-test.true;
    }

pub returns : goal.returns
returns c =
    let machine = c.args.machine.now in
    let s = machine.config in
    let h = history_of s machine.traces.items c.args.now c.args.number in
    let all : c.loop-rank.rank ≡ s.ranks = omega arith in
    subst (λ n. c.loop-rank.all.items ≡ map (λ rank. due s rank h c.args.now) (below n)) all c.loop-rank.invariant

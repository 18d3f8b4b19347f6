use Rattle.std.proofs.Common.{◌≡◌, ◌-◌, ◌++◌, length, take, ap, subst, arith}
use Rattle.std.proofs.lemmas.List.{length-drop, take_rest}
use Rattle.sim_base.specs.Machine.{channel_run}
use Rattle.channel_step.specs.Past.{past_of}
use Rattle.channel_step.specs.Runs.{HasAdvanced}
use Rattle.channel_step.proofs.Running.{run-length, run-fit, run-ends, run-can_go_on, turned-none, turned-more}
use Rattle.channel_step.proofs.channel.Channel.run.Goals as goal

pub loop-now-init : goal.loop-now-init
loop-now-init c = (
  omega arith,
  omega arith,
  omega arith,
  λ s channel steps mail h at f.
      turned-none c.args.self.now (past_of s channel steps mail) c.args.inbox.now c.args.cycles.start c.args.cycles.end c.args.commands.now c.args.messages.now.items h f,
)

pub advance-requires-clause-can_run : goal.advance-requires-clause-can_run
advance-requires-clause-can_run c =
    let p = c.requires.can_run in
    let l = c.loop-now in
    let h = l.invariant.3 p.s p.channel p.steps p.mail p.stands p.at p.fit in
    run-can_go_on l.self (past_of p.s p.channel p.steps p.mail) c.args.inbox.now c.args.cycles.start l.now c.args.cycles.end l.arrived h.issued h.sent p.at l.invariant.1 h.has_run

pub loop-now-preserved : goal.loop-now-preserved
loop-now-preserved c =
    let l = c.loop-now in
    let advance = c.in_ok-advance.advance in
    let done = c.in_ok-advance.ensures {u = tt} in (
      omega (arith, l.invariant.0, done.some, ap length (take_rest c.args.inbox.now l.arrived), length-drop l.arrived c.args.inbox.now),
      omega (arith, l.invariant.1, done.from_now),
      omega (arith, done.within),
      λ s channel steps mail stands at f.
          let inbox = c.args.inbox.now in
          let h = l.invariant.3 s channel steps mail stands at f in
          let before = channel_run s channel steps (mail ++ inbox) (l.now - c.args.cycles.start) in
          let there = mail ++ take l.arrived inbox in
          turned-more l.self c.advance.new.self (past_of s channel steps mail) inbox c.args.cycles.start l.now c.args.cycles.end l.arrived advance.arrived advance.last _ _ _ _ _ _ at l.invariant.1 done.from_now h
          (done.done s channel before there h.has_run.stands (run-length s channel steps (mail ++ inbox) c.args.cycles.start l.now at l.invariant.1)
          (run-fit l.self (past_of s channel steps mail) inbox c.args.cycles.start l.now c.args.cycles.end l.arrived h.issued h.sent h.has_run)),
    )

pub set_next_command-requires : goal.set_next_command-requires
set_next_command-requires c =
    let p = c.requires.can_run in
    let l = c.loop-now in
    let end : l.now ≡ c.args.cycles.end = omega (arith, l.invariant.2) in
    let h = subst (λ t. HasAdvanced l.self (past_of p.s p.channel p.steps p.mail) c.args.inbox.now c.args.cycles.start t c.args.cycles.end l.arrived c.args.commands.now l.commands c.args.messages.now.items l.messages.items) end
    (l.invariant.3 p.s p.channel p.steps p.mail p.stands p.at p.fit) in
    record {
      s = p.s;
      channel = p.channel;
      steps = channel_run p.s p.channel p.steps (p.mail ++ c.args.inbox.now) (c.args.cycles.end - c.args.cycles.start);
      mail = p.mail ++ c.args.inbox.now;
      stands = run-ends l.self (past_of p.s p.channel p.steps p.mail) c.args.inbox.now c.args.cycles.start c.args.cycles.end l.arrived h.issued h.sent h.has_run;
      at = run-length p.s p.channel p.steps (p.mail ++ c.args.inbox.now) c.args.cycles.start c.args.cycles.end p.at c.requires.span;
    }

pub returns : goal.returns
returns c s channel steps mail stands at f =
    let l = c.loop-now in
    let end : l.now ≡ c.args.cycles.end = omega (arith, l.invariant.2) in
    let h = subst (λ t. HasAdvanced l.self (past_of s channel steps mail) c.args.inbox.now c.args.cycles.start t c.args.cycles.end l.arrived c.args.commands.now l.commands c.args.messages.now.items l.messages.items) end
    (l.invariant.3 s channel steps mail stands at f) in
    record {
      issued = h.issued;
      sent = h.sent;
      stands =
          c.set_next_command.ensures s channel (channel_run s channel steps (mail ++ c.args.inbox.now) (c.args.cycles.end - c.args.cycles.start)) (mail ++ c.args.inbox.now)
          (run-ends l.self (past_of s channel steps mail) c.args.inbox.now c.args.cycles.start c.args.cycles.end l.arrived h.issued h.sent h.has_run)
          (run-length s channel steps (mail ++ c.args.inbox.now) c.args.cycles.start c.args.cycles.end at c.requires.span);
      commands_are = h.has_run.commands_are;
      messages_are = h.has_run.messages_are;
      commands_behind = h.commands_are;
      messages_behind = h.messages_are;
    }

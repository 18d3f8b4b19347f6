use Rattle.std.proofs.Common.{◌≡◌, ◌∙◌, ◌++◌, take, drop, refl, sym, subst, ap}
use Rattle.std.proofs.lemmas.Result.{IfOk-from_err}
use Rattle.channel_step.specs.Fit.{IsFit}
use Rattle.channel_step.specs.Runs.{CanRun, IsDone}
use Rattle.sessions.specs.Keeps.{steps_of}
use Rattle.sessions.proofs.Advancing.{keeps-at, keeps-fit, can-run, has-gone}
use Rattle.sessions.proofs.Answering.{cut-at, ran-session, given-back}
use Rattle.sessions.proofs.channel_session.session.Session.advance.Goals as goal

pub run-requires-clause-can_run : goal.run-requires-clause-can_run
run-requires-clause-can_run c =
    let session = c.args.self.now in
    let p = c.requires.open.past in
    let k = c.requires.open.is_session.keeps in
    let count = c.due_count-due.result in
    let until = c.args.until in
    let inbox = take count session.coming.items in
    let rest = drop count session.coming.items in
    let cut = cut-at until session.coming.items count k.by_age c.due_count-due.ensures in
    subst (λ x. CanRun session.channel (take count x) session.cycle until) (sym c.deref.ensures.value)
    (can-run session.channel p.config p.channel session.cycle session.firsts.items p.sent session.coming.items inbox rest until k cut c.requires.span)

pub returns-clause-done : goal.returns-clause-done
returns-clause-done c p h =
    let session = c.args.self.now in
    let k = h.keeps in
    let count = c.due_count-due.result in
    let until = c.args.until in
    let inbox = take count session.coming.items in
    let rest = drop count session.coming.items in
    let steps = steps_of p.config p.channel p.sent session.cycle in
    let cut = cut-at until session.coming.items count k.by_age c.due_count-due.ensures in
    let fit = keeps-fit session.channel p.config p.channel session.cycle session.firsts.items p.sent session.coming.items inbox rest until k cut c.requires.span in
    let lent : take count c.deref.result.now ≡ inbox = ap (take count) c.deref.ensures.value in
    let done = (c.in_ok-run.ensures {u = tt}) p.config p.channel steps k.mail k.stands (keeps-at p.config p.channel session.cycle p.sent)
    (subst (λ x. IsFit p.config p.channel steps k.mail x session.cycle until) (sym lent) fit) in
    let finished : IsDone c.run.new.self p.config p.channel steps k.mail inbox session.cycle until c.hand_out-commands.result c.run.new.commands c.clear.new.self.items c.run.new.messages.items =
    subst (λ x. IsDone c.run.new.self p.config p.channel steps k.mail x session.cycle until c.hand_out-commands.result c.run.new.commands c.clear.new.self.items c.run.new.messages.items) lent done in
    let gone = has-gone session.channel c.run.new.self p.config p.channel session.cycle session.firsts.items p.sent session.coming.items inbox rest until _ _ _ _ k cut c.requires.span c.requires.until finished in
    let forgot = c.in_ok-forget_taken.ensures {u = tt} in
    let all_sent : c.run.new.messages.items ≡ finished.sent = finished.messages_behind ∙ ap (λ ms. ms ++ finished.sent) c.clear.ensures.items in
    let behind = given-back c.forget_taken.new.self c.take_back.new.self c.hand_out-commands.result c.run.new.commands _ finished.issued c.hand_out-commands.ensures.list finished.commands_behind
    c.take_back.ensures.list (c.take_back.ensures.taken ∙ c.hand_out-commands.ensures.taken) (forgot.within h.has_commands) forgot.left in
    ran-session session _ p until rest finished.issued finished.sent h
    (record {
      config_is = refl;
      number_is = refl;
      cycle_is = refl;
      firsts_are = refl;
      coming_are = c.remove_front.ensures;
      commands_are = behind.0;
      replies_are = (c.in_ok-put.ensures {u = tt}).put ∙ ap (λ ms. session.replies.all.items ++ ms) (c.deref-2.ensures.value ∙ all_sent);
      has_commands = behind.1;
    })
    gone

pub run-requires-clause-span : goal.run-requires-clause-span
run-requires-clause-span c = c.requires.span

pub run-requires-clause-until : goal.run-requires-clause-until
run-requires-clause-until c = c.requires.until

pub returns-in_err-forget_taken-clause-done : goal.returns-in_err-forget_taken-clause-done
returns-in_err-forget_taken-clause-done c = λ p h. IfOk-from_err c.from_residual.result _ c.from_residual.ensures.0

pub returns-in_err-forget_taken-clause-now : goal.returns-in_err-forget_taken-clause-now
returns-in_err-forget_taken-clause-now c = IfOk-from_err c.from_residual.result _ c.from_residual.ensures.0

pub returns-in_err-run-clause-done : goal.returns-in_err-run-clause-done
returns-in_err-run-clause-done c = λ p h. IfOk-from_err c.from_residual-in_err-run.result _ c.from_residual-in_err-run.ensures.0

pub returns-in_err-run-clause-now : goal.returns-in_err-run-clause-now
returns-in_err-run-clause-now c = IfOk-from_err c.from_residual-in_err-run.result _ c.from_residual-in_err-run.ensures.0

pub returns-clause-now : goal.returns-clause-now
returns-clause-now c = refl

pub returns-in_err-put-clause-done : goal.returns-in_err-put-clause-done
returns-in_err-put-clause-done c = λ p h. IfOk-from_err c.from_residual-in_err-put.result _ c.from_residual-in_err-put.ensures.0

pub returns-in_err-put-clause-now : goal.returns-in_err-put-clause-now
returns-in_err-put-clause-now c = IfOk-from_err c.from_residual-in_err-put.result _ c.from_residual-in_err-put.ensures.0

-- The screen was made of the tables in the folder, or is refused by the requests beside them.
use Rattle.config_reader.proofs.Refusing.{same_fault}
use Rattle.std.proofs.Common.{inl, inr, ◌∙◌, refl}
use Rattle.std.proofs.lemmas.Result.{on_ok_weaker, IfErr-weaker, IfOk-from_err}
use Rattle.answers.specs.Refused.{IsShowFault, HoldRun}
use Rattle.answers.proofs.NamedFacts.{ok_with, err_with, unprinted_by}
use Rattle.answers.proofs.RequestFacts.{requests_before, texts_refused, beside_refused, right_beside}
use Rattle.sim_base.proofs.Results.{when_ok}
use Rattle.answers.proofs.screens.perform_show.Goals as goal

pub returns-clause-shown : goal.returns-clause-shown
returns-clause-shown g c = on_ok_weaker c.print_answer.result (λ given tells.
    let made = ok_with c.screen_in-screen.result _ _ c.screen_in-screen.ensures.screen given in
    let at = made.1 tells in
    record {
      stats = c.in_ok-run.run'.stats;
      machine = c.in_ok-run.run'.config;
      requests = at.requests;
      text = _;
      stats_are = c.in_ok-run.ensures.stats tells;
      configured = c.in_ok-run.ensures.configured tells;
      requests_are = requests_before _ _ _ _ _ _ c.in_ok-run.ensures.same (λ t. at.requests_are) tells;
      screen = at.screen;
      printed = made.2;
    }) c.print_answer.ensures.printed

pub returns-clause-fault : goal.returns-clause-fault
returns-clause-fault g c = IfErr-weaker c.print_answer.result _ _ (λ fault refused. elim refused [
  | inl write ↦ inr (
    write.0,
    right_beside _ _ _ _ _ HoldRun _ c.in_ok-run.ensures.ready c.in_ok-run.ensures.same
        (when_ok c.screen_in-screen.result c.screen_in-screen.ensures.requests write.1),
  )
  | inr other ↦ inl (beside_refused _ _ _ _ _ IsShowFault HoldRun _ _ c.in_ok-run.ensures.ready c.in_ok-run.ensures.same
      (err_with c.screen_in-screen.result _ _ c.screen_in-screen.ensures.fault other))
]) c.print_answer.ensures.fault

pub returns-in_err-run-clause-shown : goal.returns-in_err-run-clause-shown
returns-in_err-run-clause-shown g c = IfOk-from_err c.from_residual.result _ c.from_residual.ensures.0

pub returns-in_err-run-clause-fault : goal.returns-in_err-run-clause-fault
returns-in_err-run-clause-fault g c =
    rw (same_fault c.from_residual.result _ c.from_residual.ensures) (inl (texts_refused _ _ _ IsShowFault _ _ (λ texts wrong. inl wrong) c.in_err-run.ensures.fault))

pub returns-in_err-run-clause-same : goal.returns-in_err-run-clause-same
returns-in_err-run-clause-same g c = c.in_err-run.ensures.same

pub returns-in_err-run-clause-unopened : goal.returns-in_err-run-clause-unopened
returns-in_err-run-clause-unopened g c = c.in_err-run.ensures.unopened

pub returns-clause-same : goal.returns-clause-same
returns-clause-same g c = λ t path. c.screen_in-screen.ensures.same t path ∙ c.in_ok-run.ensures.same t path

pub returns-clause-unopened : goal.returns-clause-unopened
returns-clause-unopened g c = λ t. c.screen_in-screen.ensures.unopened t ∙ c.in_ok-run.ensures.unopened t

pub returns-in_err-run-clause-unprinted : goal.returns-in_err-run-clause-unprinted
returns-in_err-run-clause-unprinted g c = rw (same_fault c.from_residual.result _ c.from_residual.ensures) (λ other. refl)

pub returns-clause-unprinted : goal.returns-clause-unprinted
returns-clause-unprinted g c =
    IfErr-weaker c.print_answer.result _ _ (λ fault refused other. unprinted_by c.screen_in-screen.result _ _ refused c.print_answer.ensures.unprinted other) c.print_answer.ensures.fault

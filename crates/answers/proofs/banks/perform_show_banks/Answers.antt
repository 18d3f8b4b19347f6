-- The screen was made of the tables in the folder, or is refused by them or by the requests beside them.
use Rattle.config_reader.proofs.Refusing.{same_fault}
use Rattle.std.proofs.Common.{inl, inr, ◌∙◌, refl}
use Rattle.std.proofs.lemmas.Result.{on_ok_weaker, IfErr-weaker, IfOk-from_err}
use Rattle.answers.specs.Refused.{IsPageFault, HoldRunTables}
use Rattle.answers.proofs.NamedFacts.{ok_with, err_with, unprinted_by}
use Rattle.answers.proofs.RequestFacts.{requests_before, texts_refused, beside_refused, right_beside}
use Rattle.sim_base.proofs.Results.{when_ok}
use Rattle.answers.proofs.banks.perform_show_banks.Goals as goal

pub returns-clause-shown : goal.returns-clause-shown
returns-clause-shown g c = on_ok_weaker c.print_answer.result (λ given tells.
    let made = ok_with c.screen_in-screen.result _ _ c.screen_in-screen.ensures.screen given in
    let at = made.1 tells in
    record {
      stats = c.in_ok-found.found.run.stats;
      machine = c.in_ok-found.found.run.config;
      commands = c.in_ok-found.found.commands;
      requests = at.requests;
      text = _;
      tables = c.in_ok-found.ensures.tables tells;
      configured = c.in_ok-found.ensures.fits tells;
      of_run = c.in_ok-found.ensures.of_run;
      requests_are = requests_before _ _ _ _ _ _ c.in_ok-found.ensures.same (λ t. at.requests_are) tells;
      screen = at.screen;
      printed = made.2;
    }) c.print_answer.ensures.printed

pub returns-clause-fault : goal.returns-clause-fault
returns-clause-fault g c = IfErr-weaker c.print_answer.result _ _ (λ fault refused. elim refused [
  | inl write ↦ inr (
    write.0,
    right_beside _ _ _ _ _ HoldRunTables _ c.in_ok-found.ensures.ready c.in_ok-found.ensures.same
        (when_ok c.screen_in-screen.result c.screen_in-screen.ensures.requests write.1),
  )
  | inr other ↦ inl (beside_refused _ _ _ _ _ IsPageFault HoldRunTables _ _ c.in_ok-found.ensures.ready c.in_ok-found.ensures.same
      (err_with c.screen_in-screen.result _ _ c.screen_in-screen.ensures.fault other))
]) c.print_answer.ensures.fault

pub returns-in_err-found-clause-shown : goal.returns-in_err-found-clause-shown
returns-in_err-found-clause-shown g c = IfOk-from_err c.from_residual.result _ c.from_residual.ensures.0

pub returns-in_err-found-clause-fault : goal.returns-in_err-found-clause-fault
returns-in_err-found-clause-fault g c =
    rw (same_fault c.from_residual.result _ c.from_residual.ensures) (inl (texts_refused _ _ _ IsPageFault _ _ (λ texts wrong. inl wrong) c.in_err-found.ensures.fault))

pub returns-in_err-found-clause-same : goal.returns-in_err-found-clause-same
returns-in_err-found-clause-same g c = c.in_err-found.ensures.same

pub returns-in_err-found-clause-unopened : goal.returns-in_err-found-clause-unopened
returns-in_err-found-clause-unopened g c = c.in_err-found.ensures.unopened

pub returns-clause-same : goal.returns-clause-same
returns-clause-same g c = λ t path. c.screen_in-screen.ensures.same t path ∙ c.in_ok-found.ensures.same t path

pub returns-clause-unopened : goal.returns-clause-unopened
returns-clause-unopened g c = λ t. c.screen_in-screen.ensures.unopened t ∙ c.in_ok-found.ensures.unopened t

pub returns-in_err-found-clause-unprinted : goal.returns-in_err-found-clause-unprinted
returns-in_err-found-clause-unprinted g c = rw (same_fault c.from_residual.result _ c.from_residual.ensures) (λ other. refl)

pub returns-clause-unprinted : goal.returns-clause-unprinted
returns-clause-unprinted g c =
    IfErr-weaker c.print_answer.result _ _ (λ fault refused other. unprinted_by c.screen_in-screen.result _ _ refused c.print_answer.ensures.unprinted other) c.print_answer.ensures.fault

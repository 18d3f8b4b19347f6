-- The page was made of the tables in the folder, or is refused by them or by the requests beside them.
use Rattle.whole_files.specs.WholeFile.{part_of}
use Rattle.config_reader.proofs.Refusing.{same_fault}
use Rattle.std.proofs.Common.{inl, inr, ◌∙◌, sym, subst, ap, ◌++◌, ◌∷◌, []}
use Rattle.std.proofs.lemmas.Result.{IfOk-weaker, IfErr-weaker, on_err_weaker, IfOk-from_err, on_ok_weaker}
use Rattle.page.specs.Document.{IsDocument}
use Rattle.refusal.specs.Warnings.{IsWarningOf}
use Rattle.answers.specs.Refused.{IsPageFault, HoldRunTables}
use Rattle.answers.proofs.NamedFacts.{both_ok, ok_with, ok_so, err_with}
use Rattle.answers.proofs.PageFacts.{whole_from, unwritten_from, write_refused}
use Rattle.answers.proofs.RequestFacts.{requests_before, texts_refused, beside_refused, right_beside}
use Rattle.sim_base.proofs.Results.{when_ok}
use Rattle.answers.proofs.pages.perform_page.Goals as goal

pub returns-clause-done : goal.returns-clause-done
returns-clause-done g c = IfOk-weaker c.put_page.result _ _ (λ warning given tells.
    let page = both_ok c.page_in-page.result _ _ _ (λ page warned document. (warned, document)) c.page_in-page.ensures.warned c.page_in-page.ensures.document in
    let made = ok_with c.page_in-page.result (λ page. IsWarningOf page.text.items page.warning × IsDocument page.text.items) _ page given in
    let at = ok_so c.page_in-page.result _ c.page_in-page.ensures.requests given tells in
    record {
      stats = c.in_ok-found.found.run.stats;
      machine = c.in_ok-found.found.run.config;
      commands = c.in_ok-found.found.commands;
      requests = at.requests;
      text = made.0.text.items;
      tables = c.in_ok-found.ensures.tables tells;
      configured = c.in_ok-found.ensures.fits tells;
      requests_are = requests_before _ _ _ _ _ _ c.in_ok-found.ensures.same (λ t. at.requests_are) tells;
      of_run = c.in_ok-found.ensures.of_run;
      written = whole_from _ _ _ _ _ (λ path. c.page_in-page.ensures.same tells path ∙ c.in_ok-found.ensures.same tells path) (made.2.1 tells);
      warned = subst (IsWarningOf made.0.text.items) (sym made.2.0) made.1.0;
      document = made.1.1;
    }) c.put_page.ensures.put

pub returns-clause-refused : goal.returns-clause-refused
returns-clause-refused g c = on_err_weaker c.put_page.result
    (λ left. unwritten_from _ _ _ _ _ _ _ _ (λ t path. c.page_in-page.ensures.same t path ∙ c.in_ok-found.ensures.same t path)
    (λ t. c.page_in-page.ensures.unopened t ∙ c.in_ok-found.ensures.unopened t) left)
    c.put_page.ensures.refused

pub returns-clause-fault : goal.returns-clause-fault
returns-clause-fault g c = IfErr-weaker c.put_page.result _ _ (λ fault refused. elim refused [
  | inl write ↦ write_refused _ _ _ _ _ _ (right_beside _ _ _ _ _ HoldRunTables _ c.in_ok-found.ensures.ready c.in_ok-found.ensures.same
      (when_ok c.page_in-page.result c.page_in-page.ensures.requests write.1)) write.0
  | inr other ↦ elim (err_with c.page_in-page.result _ _ c.page_in-page.ensures.fault other) [
    | inl requests ↦ inl (beside_refused _ _ _ _ _ IsPageFault HoldRunTables _ _ c.in_ok-found.ensures.ready c.in_ok-found.ensures.same requests)
    | inr unwritten ↦ inr (unwritten.0, right_beside _ _ _ _ _ HoldRunTables _ c.in_ok-found.ensures.ready c.in_ok-found.ensures.same unwritten.1)
  ]
]) c.put_page.ensures.fault

pub returns-in_err-found-clause-done : goal.returns-in_err-found-clause-done
returns-in_err-found-clause-done g c = IfOk-from_err c.from_residual.result _ c.from_residual.ensures.0

pub returns-in_err-found-clause-noted : goal.returns-in_err-found-clause-noted
returns-in_err-found-clause-noted g c = IfOk-from_err c.from_residual.result _ c.from_residual.ensures.0

pub returns-in_err-found-clause-fault : goal.returns-in_err-found-clause-fault
returns-in_err-found-clause-fault g c =
    rw (same_fault c.from_residual.result _ c.from_residual.ensures) (inl (texts_refused _ _ _ IsPageFault _ _ (λ texts wrong. inl wrong) c.in_err-found.ensures.fault))

pub returns-in_err-found-clause-refused : goal.returns-in_err-found-clause-refused
returns-in_err-found-clause-refused g c =
    rw (same_fault c.from_residual.result _ c.from_residual.ensures) (λ t. inl (record { same = c.in_err-found.ensures.same t; unopened = c.in_err-found.ensures.unopened t }))

pub returns-clause-noted : goal.returns-clause-noted
returns-clause-noted g c =
    on_ok_weaker c.put_page.result (λ one t. one t ∙ ap (λ paths. paths ++ part_of c.args.file.now ∷ []) (c.page_in-page.ensures.unopened t ∙ c.in_ok-found.ensures.unopened t)) c.put_page.ensures.noted

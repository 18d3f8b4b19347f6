use Rattle.answers.proofs.NamedFacts.{one_unread, two_unread}
use Rattle.std.proofs.Common.{[], ◌∷◌, sym, ap, ◌∙◌, None, refl}
use Rattle.std.proofs.lemmas.Result.{IfOk-weaker, IfErr-weaker, IfOk-from_err}
use Rattle.config_reader.specs.Document.{document_of}
use Rattle.rule_check.specs.Verdict.{records_of, verdict}
use Rattle.config_reader.proofs.Refusing.{same_fault}
use Rattle.answers.proofs.RefusedFacts.{two_texts, config_fault, row_fault}
use Rattle.answers.proofs.verdicts.judge.Goals as goal

pub returns-clause-found : goal.returns-clause-found
returns-clause-found g c = IfOk-weaker c.verdict_of.result _ _ (λ found judged. λ tells. record {
  document = c.in_ok-document.document.items;
  table = c.in_ok-table.table.items;
  machine = c.in_ok-config.config;
  config_is = c.in_ok-document.ensures.bytes tells;
  table_is = sym (c.in_ok-document.ensures.same tells c.args.commands.now) ∙ c.in_ok-table.ensures.bytes tells;
  configured = ap document_of (sym c.deref.ensures.value) ∙ c.in_ok-config.ensures.ok;
  found_is = ap (λ t. verdict c.in_ok-config.config (records_of t)) (sym c.deref-2.ensures.value) ∙ judged;
}) c.verdict_of.ensures.ok

pub returns-clause-ready : goal.returns-clause-ready
returns-clause-ready g c = IfOk-weaker c.verdict_of.result _ _ (λ found judged. record {
  texts = c.in_ok-document.document.items ∷ c.in_ok-table.table.items ∷ [];
  read = two_texts _ _ _ _ _ _ _ c.in_ok-document.ensures.bytes c.in_ok-document.ensures.same c.in_ok-table.ensures.bytes;
  right = record {
    machine = c.in_ok-config.config;
    found = found;
    configured = ap document_of (sym c.deref.ensures.value) ∙ c.in_ok-config.ensures.ok;
    found_is = ap (λ t. verdict c.in_ok-config.config (records_of t)) (sym c.deref-2.ensures.value) ∙ judged;
  };
}) c.verdict_of.ensures.ok

pub returns-in_err-config-clause-fault : goal.returns-in_err-config-clause-fault
returns-in_err-config-clause-fault g c =
    rw (same_fault c.from_residual-in_err-config.result _ c.from_residual-in_err-config.ensures) (config_fault _ _ _ _ _ _ _ _
    (two_texts _ _ _ _ _ _ _ c.in_ok-document.ensures.bytes c.in_ok-document.ensures.same c.in_ok-table.ensures.bytes)
    c.deref.ensures.value c.in_err-config.ensures.refused)

pub returns-clause-fault : goal.returns-clause-fault
returns-clause-fault g c = IfErr-weaker c.verdict_of.result _ _ (λ fault refused. row_fault _ _ _ _ _ _ _ _ fault
    (two_texts _ _ _ _ _ _ _ c.in_ok-document.ensures.bytes c.in_ok-document.ensures.same c.in_ok-table.ensures.bytes)
    (ap document_of (sym c.deref.ensures.value) ∙ c.in_ok-config.ensures.ok) c.deref-2.ensures.value refused) c.verdict_of.ensures.refused

pub returns-in_err-document-clause-found : goal.returns-in_err-document-clause-found
returns-in_err-document-clause-found g c = IfOk-from_err c.from_residual.result _ c.from_residual.ensures.0

pub returns-in_err-document-clause-ready : goal.returns-in_err-document-clause-ready
returns-in_err-document-clause-ready g c = IfOk-from_err c.from_residual.result _ c.from_residual.ensures.0

pub returns-in_err-document-clause-fault : goal.returns-in_err-document-clause-fault
returns-in_err-document-clause-fault g c =
    rw (same_fault c.from_residual.result _ c.from_residual.ensures) (one_unread _ _ _ None _ _ _ _ (λ t path. refl) c.in_err-document.ensures.fault)

pub returns-in_err-document-clause-same : goal.returns-in_err-document-clause-same
returns-in_err-document-clause-same g c = c.in_err-document.ensures.same

pub returns-in_err-document-clause-unopened : goal.returns-in_err-document-clause-unopened
returns-in_err-document-clause-unopened g c = c.in_err-document.ensures.unopened

pub returns-in_err-table-clause-found : goal.returns-in_err-table-clause-found
returns-in_err-table-clause-found g c =
    IfOk-from_err c.from_residual-in_err-table.result _ c.from_residual-in_err-table.ensures.0

pub returns-in_err-table-clause-ready : goal.returns-in_err-table-clause-ready
returns-in_err-table-clause-ready g c =
    IfOk-from_err c.from_residual-in_err-table.result _ c.from_residual-in_err-table.ensures.0

pub returns-in_err-table-clause-fault : goal.returns-in_err-table-clause-fault
returns-in_err-table-clause-fault g c =
    rw (same_fault c.from_residual-in_err-table.result _ c.from_residual-in_err-table.ensures) (two_unread _ _ _ None _ _ _ _ _ c.in_ok-document.ensures.same c.in_err-table.ensures.fault)

pub returns-in_err-table-clause-same : goal.returns-in_err-table-clause-same
returns-in_err-table-clause-same g c =
    λ t path. c.in_err-table.ensures.same t path ∙ c.in_ok-document.ensures.same t path

pub returns-in_err-table-clause-unopened : goal.returns-in_err-table-clause-unopened
returns-in_err-table-clause-unopened g c = λ t. c.in_err-table.ensures.unopened t ∙ c.in_ok-document.ensures.unopened t

pub returns-in_err-config-clause-found : goal.returns-in_err-config-clause-found
returns-in_err-config-clause-found g c =
    IfOk-from_err c.from_residual-in_err-config.result _ c.from_residual-in_err-config.ensures.0

pub returns-in_err-config-clause-ready : goal.returns-in_err-config-clause-ready
returns-in_err-config-clause-ready g c =
    IfOk-from_err c.from_residual-in_err-config.result _ c.from_residual-in_err-config.ensures.0

pub returns-in_err-config-clause-same : goal.returns-in_err-config-clause-same
returns-in_err-config-clause-same g c =
    λ t path. c.in_ok-table.ensures.same t path ∙ c.in_ok-document.ensures.same t path

pub returns-in_err-config-clause-unopened : goal.returns-in_err-config-clause-unopened
returns-in_err-config-clause-unopened g c = λ t. c.in_ok-table.ensures.unopened t ∙ c.in_ok-document.ensures.unopened t

pub returns-clause-same : goal.returns-clause-same
returns-clause-same g c = λ t path. c.in_ok-table.ensures.same t path ∙ c.in_ok-document.ensures.same t path

pub returns-clause-unopened : goal.returns-clause-unopened
returns-clause-unopened g c = λ t. c.in_ok-table.ensures.unopened t ∙ c.in_ok-document.ensures.unopened t

use Rattle.config_reader.proofs.Refusing.{same_fault}
use Rattle.std.proofs.Common.{Some, sym, ap, ◌∙◌}
use Rattle.std.proofs.lemmas.Result.{IfOk-weaker, IfErr-weaker, IfOk-from_err}
use Rattle.rule_check.specs.Verdict.{records_of}
use Rattle.answers.proofs.NamedFacts.{text_later, configured_from, both_ok, ready_show, fault_show, config_unread, one_unread}
use Rattle.answers.proofs.screens.run_at.Goals as goal

pub returns-clause-stats : goal.returns-clause-stats
returns-clause-stats g c = IfOk-weaker c.described.result _ _ (λ run read. λ tells. record {
  table = c.in_ok-table.table.items;
  table_is = text_later _ _ _ _ _ c.in_ok-document.ensures.same c.in_ok-table.ensures.bytes tells;
  rows_are = ap records_of (sym c.deref.ensures.value) ∙ read;
}) c.described.ensures.read

pub returns-clause-configured : goal.returns-clause-configured
returns-clause-configured g c =
    IfOk-weaker c.described.result _ _ (λ run is. λ tells. configured_from _ _ _ _ _ _ c.in_ok-document.ensures.text is tells) c.described.ensures.configured

pub returns-clause-ready : goal.returns-clause-ready
returns-clause-ready g c =
    both_ok c.described.result _ _ _
    (λ run read is. ready_show _ _ _ _ _ _ _ _ _ c.in_ok-document.ensures.text c.in_ok-document.ensures.same
    (λ t. c.in_ok-table.ensures.bytes t ∙ ap Some (sym c.deref.ensures.value)) read is)
    c.described.ensures.read c.described.ensures.configured

pub returns-clause-fault : goal.returns-clause-fault
returns-clause-fault g c =
    IfErr-weaker c.described.result _ _
    (λ fault refused. fault_show _ _ _ _ _ _ _ fault c.in_ok-document.ensures.text c.in_ok-document.ensures.same
    (λ t. c.in_ok-table.ensures.bytes t ∙ ap Some (sym c.deref.ensures.value)) refused)
    c.described.ensures.fault

pub returns-in_err-document-clause-stats : goal.returns-in_err-document-clause-stats
returns-in_err-document-clause-stats g c = IfOk-from_err c.from_residual.result _ c.from_residual.ensures.0

pub returns-in_err-document-clause-configured : goal.returns-in_err-document-clause-configured
returns-in_err-document-clause-configured g c = IfOk-from_err c.from_residual.result _ c.from_residual.ensures.0

pub returns-in_err-document-clause-ready : goal.returns-in_err-document-clause-ready
returns-in_err-document-clause-ready g c = IfOk-from_err c.from_residual.result _ c.from_residual.ensures.0

pub returns-in_err-document-clause-fault : goal.returns-in_err-document-clause-fault
returns-in_err-document-clause-fault g c =
    rw (same_fault c.from_residual.result _ c.from_residual.ensures) (config_unread _ _ _ _ _ _ c.in_err-document.ensures.fault)

pub returns-in_err-document-clause-same : goal.returns-in_err-document-clause-same
returns-in_err-document-clause-same g c = c.in_err-document.ensures.same

pub returns-in_err-document-clause-unopened : goal.returns-in_err-document-clause-unopened
returns-in_err-document-clause-unopened g c = c.in_err-document.ensures.unopened

pub returns-in_err-table-clause-stats : goal.returns-in_err-table-clause-stats
returns-in_err-table-clause-stats g c =
    IfOk-from_err c.from_residual-in_err-table.result _ c.from_residual-in_err-table.ensures.0

pub returns-in_err-table-clause-configured : goal.returns-in_err-table-clause-configured
returns-in_err-table-clause-configured g c =
    IfOk-from_err c.from_residual-in_err-table.result _ c.from_residual-in_err-table.ensures.0

pub returns-in_err-table-clause-ready : goal.returns-in_err-table-clause-ready
returns-in_err-table-clause-ready g c =
    IfOk-from_err c.from_residual-in_err-table.result _ c.from_residual-in_err-table.ensures.0

pub returns-in_err-table-clause-fault : goal.returns-in_err-table-clause-fault
returns-in_err-table-clause-fault g c =
    rw (same_fault c.from_residual-in_err-table.result _ c.from_residual-in_err-table.ensures) (one_unread _ _ _ _ _ _ _ _ c.in_ok-document.ensures.same c.in_err-table.ensures.fault)

pub returns-in_err-table-clause-same : goal.returns-in_err-table-clause-same
returns-in_err-table-clause-same g c =
    λ t path. c.in_err-table.ensures.same t path ∙ c.in_ok-document.ensures.same t path

pub returns-in_err-table-clause-unopened : goal.returns-in_err-table-clause-unopened
returns-in_err-table-clause-unopened g c = λ t. c.in_err-table.ensures.unopened t ∙ c.in_ok-document.ensures.unopened t

pub returns-clause-same : goal.returns-clause-same
returns-clause-same g c = λ t path. c.in_ok-table.ensures.same t path ∙ c.in_ok-document.ensures.same t path

pub returns-clause-unopened : goal.returns-clause-unopened
returns-clause-unopened g c = λ t. c.in_ok-table.ensures.unopened t ∙ c.in_ok-document.ensures.unopened t

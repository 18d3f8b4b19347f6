use Rattle.std.proofs.Common.{◌∙◌}
use Rattle.config_reader.proofs.Refusing.{same_fault}
use Rattle.std.proofs.lemmas.Result.{IfOk-weaker, IfErr-weaker, IfOk-from_err}
use Rattle.answers.proofs.NamedFacts.{configured_from, all_ok, ready_page, fault_page, config_unread, one_unread, two_unread}
use Rattle.answers.proofs.tables.tables_at.Goals as goal

pub returns-clause-fits : goal.returns-clause-fits
returns-clause-fits g c =
    IfOk-weaker c.read_tables.result _ _ (λ found is. λ tells. configured_from _ _ _ _ _ _ c.in_ok-document.ensures.text is tells) c.read_tables.ensures.configured

pub returns-clause-ready : goal.returns-clause-ready
returns-clause-ready g c =
    all_ok c.read_tables.result _ _ _ _
    (λ found tables is own. ready_page _ _ _ _ _ _ _ _ _ _ _ _ _ c.in_ok-document.ensures.text c.in_ok-document.ensures.same
    c.in_ok-stats_table.ensures.bytes c.in_ok-stats_table.ensures.same
    c.in_ok-commands_table.ensures.bytes tables is own)
    c.read_tables.ensures.tables c.read_tables.ensures.configured c.read_tables.ensures.of_run

pub returns-clause-of_run : goal.returns-clause-of_run
returns-clause-of_run g c = c.read_tables.ensures.of_run

pub returns-in_err-document-clause-of_run : goal.returns-in_err-document-clause-of_run
returns-in_err-document-clause-of_run g c = IfOk-from_err c.from_residual.result _ c.from_residual.ensures.0

pub returns-in_err-stats_table-clause-of_run : goal.returns-in_err-stats_table-clause-of_run
returns-in_err-stats_table-clause-of_run g c =
    IfOk-from_err c.from_residual-in_err-stats_table.result _ c.from_residual-in_err-stats_table.ensures.0

pub returns-in_err-commands_table-clause-of_run : goal.returns-in_err-commands_table-clause-of_run
returns-in_err-commands_table-clause-of_run g c =
    IfOk-from_err c.from_residual-in_err-commands_table.result _ c.from_residual-in_err-commands_table.ensures.0

pub returns-clause-fault : goal.returns-clause-fault
returns-clause-fault g c =
    IfErr-weaker c.read_tables.result _ _
    (λ fault refused. fault_page _ _ _ _ _ _ _ _ _ _ fault c.in_ok-document.ensures.text c.in_ok-document.ensures.same
    c.in_ok-stats_table.ensures.bytes c.in_ok-stats_table.ensures.same
    c.in_ok-commands_table.ensures.bytes refused)
    c.read_tables.ensures.fault

pub returns-in_err-document-clause-tables : goal.returns-in_err-document-clause-tables
returns-in_err-document-clause-tables g c = IfOk-from_err c.from_residual.result _ c.from_residual.ensures.0

pub returns-in_err-document-clause-fits : goal.returns-in_err-document-clause-fits
returns-in_err-document-clause-fits g c = IfOk-from_err c.from_residual.result _ c.from_residual.ensures.0

pub returns-in_err-document-clause-ready : goal.returns-in_err-document-clause-ready
returns-in_err-document-clause-ready g c = IfOk-from_err c.from_residual.result _ c.from_residual.ensures.0

pub returns-in_err-document-clause-fault : goal.returns-in_err-document-clause-fault
returns-in_err-document-clause-fault g c =
    rw (same_fault c.from_residual.result _ c.from_residual.ensures) (config_unread _ _ _ _ _ _ c.in_err-document.ensures.fault)

pub returns-in_err-document-clause-same : goal.returns-in_err-document-clause-same
returns-in_err-document-clause-same g c = c.in_err-document.ensures.same

pub returns-in_err-document-clause-unopened : goal.returns-in_err-document-clause-unopened
returns-in_err-document-clause-unopened g c = c.in_err-document.ensures.unopened

pub returns-in_err-stats_table-clause-tables : goal.returns-in_err-stats_table-clause-tables
returns-in_err-stats_table-clause-tables g c =
    IfOk-from_err c.from_residual-in_err-stats_table.result _ c.from_residual-in_err-stats_table.ensures.0

pub returns-in_err-stats_table-clause-fits : goal.returns-in_err-stats_table-clause-fits
returns-in_err-stats_table-clause-fits g c =
    IfOk-from_err c.from_residual-in_err-stats_table.result _ c.from_residual-in_err-stats_table.ensures.0

pub returns-in_err-stats_table-clause-ready : goal.returns-in_err-stats_table-clause-ready
returns-in_err-stats_table-clause-ready g c =
    IfOk-from_err c.from_residual-in_err-stats_table.result _ c.from_residual-in_err-stats_table.ensures.0

pub returns-in_err-stats_table-clause-fault : goal.returns-in_err-stats_table-clause-fault
returns-in_err-stats_table-clause-fault g c =
    rw (same_fault c.from_residual-in_err-stats_table.result _ c.from_residual-in_err-stats_table.ensures) (one_unread _ _ _ _ _ _ _ _ c.in_ok-document.ensures.same c.in_err-stats_table.ensures.fault)

pub returns-in_err-stats_table-clause-same : goal.returns-in_err-stats_table-clause-same
returns-in_err-stats_table-clause-same g c =
    λ t path. c.in_err-stats_table.ensures.same t path ∙ c.in_ok-document.ensures.same t path

pub returns-in_err-stats_table-clause-unopened : goal.returns-in_err-stats_table-clause-unopened
returns-in_err-stats_table-clause-unopened g c =
    λ t. c.in_err-stats_table.ensures.unopened t ∙ c.in_ok-document.ensures.unopened t

pub returns-in_err-commands_table-clause-tables : goal.returns-in_err-commands_table-clause-tables
returns-in_err-commands_table-clause-tables g c =
    IfOk-from_err c.from_residual-in_err-commands_table.result _ c.from_residual-in_err-commands_table.ensures.0

pub returns-in_err-commands_table-clause-fits : goal.returns-in_err-commands_table-clause-fits
returns-in_err-commands_table-clause-fits g c =
    IfOk-from_err c.from_residual-in_err-commands_table.result _ c.from_residual-in_err-commands_table.ensures.0

pub returns-in_err-commands_table-clause-ready : goal.returns-in_err-commands_table-clause-ready
returns-in_err-commands_table-clause-ready g c =
    IfOk-from_err c.from_residual-in_err-commands_table.result _ c.from_residual-in_err-commands_table.ensures.0

pub returns-in_err-commands_table-clause-fault : goal.returns-in_err-commands_table-clause-fault
returns-in_err-commands_table-clause-fault g c =
    rw (same_fault c.from_residual-in_err-commands_table.result _ c.from_residual-in_err-commands_table.ensures) (two_unread _ _ _ _ _ _ _ _ _ (λ t path. c.in_ok-stats_table.ensures.same t path ∙ c.in_ok-document.ensures.same t path) c.in_err-commands_table.ensures.fault)

pub returns-in_err-commands_table-clause-same : goal.returns-in_err-commands_table-clause-same
returns-in_err-commands_table-clause-same g c =
    λ t path. c.in_err-commands_table.ensures.same t path ∙ c.in_ok-stats_table.ensures.same t path ∙ c.in_ok-document.ensures.same t path

pub returns-in_err-commands_table-clause-unopened : goal.returns-in_err-commands_table-clause-unopened
returns-in_err-commands_table-clause-unopened g c =
    λ t. c.in_err-commands_table.ensures.unopened t ∙ c.in_ok-stats_table.ensures.unopened t ∙ c.in_ok-document.ensures.unopened t

pub returns-clause-same : goal.returns-clause-same
returns-clause-same g c =
    λ t path. c.in_ok-commands_table.ensures.same t path ∙ c.in_ok-stats_table.ensures.same t path ∙ c.in_ok-document.ensures.same t path

pub returns-clause-unopened : goal.returns-clause-unopened
returns-clause-unopened g c =
    λ t. c.in_ok-commands_table.ensures.unopened t ∙ c.in_ok-stats_table.ensures.unopened t ∙ c.in_ok-document.ensures.unopened t

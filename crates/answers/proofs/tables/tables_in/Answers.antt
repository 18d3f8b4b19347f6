use Rattle.config_reader.proofs.Refusing.{same_fault}
use Rattle.std.proofs.lemmas.Result.{IfOk-from_err}
use Rattle.std.proofs.Common.{◌≡◌, ◌∙◌, inl, refl}
use Rattle.whole_files.specs.Tables.{path_in, stats_name, commands_name}
use Rattle.answers.proofs.tables.tables_in.Goals as goal

pub returns-clause-tables : goal.returns-clause-tables
returns-clause-tables g c =
    let one : c.as_str.result.now ≡ path_in c.args.folder.now.dir.now stats_name = c.as_str.ensures.value ∙ c.in_ok-stats.ensures.path in
    let two : c.as_str-2.result.now ≡ path_in c.args.folder.now.dir.now commands_name = c.as_str-2.ensures.value ∙ c.in_ok-commands.ensures.path in
    rw (one, two) at c.tables_at.ensures.tables

pub returns-in_err-stats-clause-tables : goal.returns-in_err-stats-clause-tables
returns-in_err-stats-clause-tables g c = IfOk-from_err c.from_residual.result _ c.from_residual.ensures.0

pub returns-in_err-stats-clause-fits : goal.returns-in_err-stats-clause-fits
returns-in_err-stats-clause-fits g c = IfOk-from_err c.from_residual.result _ c.from_residual.ensures.0

pub returns-in_err-stats-clause-ready : goal.returns-in_err-stats-clause-ready
returns-in_err-stats-clause-ready g c = IfOk-from_err c.from_residual.result _ c.from_residual.ensures.0

pub returns-in_err-stats-clause-fault : goal.returns-in_err-stats-clause-fault
returns-in_err-stats-clause-fault g c =
    rw (same_fault c.from_residual.result _ c.from_residual.ensures) (inl (inl c.in_err-stats.ensures.fault))

pub returns-in_err-stats-clause-same : goal.returns-in_err-stats-clause-same
returns-in_err-stats-clause-same g c = λ t path. refl

pub returns-in_err-stats-clause-unopened : goal.returns-in_err-stats-clause-unopened
returns-in_err-stats-clause-unopened g c = λ t. refl

pub returns-in_err-commands-clause-tables : goal.returns-in_err-commands-clause-tables
returns-in_err-commands-clause-tables g c =
    IfOk-from_err c.from_residual-in_err-commands.result _ c.from_residual-in_err-commands.ensures.0

pub returns-in_err-commands-clause-fits : goal.returns-in_err-commands-clause-fits
returns-in_err-commands-clause-fits g c =
    IfOk-from_err c.from_residual-in_err-commands.result _ c.from_residual-in_err-commands.ensures.0

pub returns-in_err-commands-clause-ready : goal.returns-in_err-commands-clause-ready
returns-in_err-commands-clause-ready g c =
    IfOk-from_err c.from_residual-in_err-commands.result _ c.from_residual-in_err-commands.ensures.0

pub returns-in_err-commands-clause-fault : goal.returns-in_err-commands-clause-fault
returns-in_err-commands-clause-fault g c =
    rw (same_fault c.from_residual-in_err-commands.result _ c.from_residual-in_err-commands.ensures) (inl (inl c.in_err-commands.ensures.fault))

pub returns-in_err-commands-clause-same : goal.returns-in_err-commands-clause-same
returns-in_err-commands-clause-same g c = λ t path. refl

pub returns-in_err-commands-clause-unopened : goal.returns-in_err-commands-clause-unopened
returns-in_err-commands-clause-unopened g c = λ t. refl

pub returns-clause-fits : goal.returns-clause-fits
returns-clause-fits g c = c.tables_at.ensures.fits

pub returns-clause-of_run : goal.returns-clause-of_run
returns-clause-of_run g c = c.tables_at.ensures.of_run

pub returns-in_err-stats-clause-of_run : goal.returns-in_err-stats-clause-of_run
returns-in_err-stats-clause-of_run g c = IfOk-from_err c.from_residual.result _ c.from_residual.ensures.0

pub returns-in_err-commands-clause-of_run : goal.returns-in_err-commands-clause-of_run
returns-in_err-commands-clause-of_run g c =
    IfOk-from_err c.from_residual-in_err-commands.result _ c.from_residual-in_err-commands.ensures.0

pub returns-clause-ready : goal.returns-clause-ready
returns-clause-ready g c =
    let one : c.as_str.result.now ≡ path_in c.args.folder.now.dir.now stats_name = c.as_str.ensures.value ∙ c.in_ok-stats.ensures.path in
    let two : c.as_str-2.result.now ≡ path_in c.args.folder.now.dir.now commands_name = c.as_str-2.ensures.value ∙ c.in_ok-commands.ensures.path in
    rw (one, two) at c.tables_at.ensures.ready

pub returns-clause-fault : goal.returns-clause-fault
returns-clause-fault g c =
    let one : c.as_str.result.now ≡ path_in c.args.folder.now.dir.now stats_name = c.as_str.ensures.value ∙ c.in_ok-stats.ensures.path in
    let two : c.as_str-2.result.now ≡ path_in c.args.folder.now.dir.now commands_name = c.as_str-2.ensures.value ∙ c.in_ok-commands.ensures.path in
    rw (one, two) at c.tables_at.ensures.fault

pub returns-clause-same : goal.returns-clause-same
returns-clause-same g c = c.tables_at.ensures.same

pub returns-clause-unopened : goal.returns-clause-unopened
returns-clause-unopened g c = c.tables_at.ensures.unopened

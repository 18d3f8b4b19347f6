use Rattle.config_reader.proofs.Refusing.{same_fault}
use Rattle.std.proofs.lemmas.Result.{IfOk-from_err}
use Rattle.answers.proofs.NamedFacts.{config_refused, stats_refused, size_refused}
use Rattle.answers.proofs.described.described_by.Goals as goal

pub returns-in_err-config-clause-fault : goal.returns-in_err-config-clause-fault
returns-in_err-config-clause-fault c =
    rw (same_fault c.from_residual.result _ c.from_residual.ensures)
    (config_refused c.args.document.now.bytes.items _ c.args.table.now _ c.deref.ensures.value c.in_err-config.ensures.refused)

pub returns-in_err-stats-clause-fault : goal.returns-in_err-stats-clause-fault
returns-in_err-stats-clause-fault c =
    rw (same_fault c.from_residual-in_err-stats.result _ c.from_residual-in_err-stats.ensures)
    (stats_refused c.args.document.now.bytes.items _ c.args.table.now c.in_ok-config.config _ c.deref.ensures.value c.in_ok-config.ensures.ok c.in_err-stats.ensures.refused)

pub returns-in_err-check_fits-clause-fault : goal.returns-in_err-check_fits-clause-fault
returns-in_err-check_fits-clause-fault c =
    rw (same_fault c.from_residual-in_err-check_fits.result _ c.from_residual-in_err-check_fits.ensures)
    (size_refused c.args.document.now.bytes.items _ c.args.table.now c.in_ok-config.config _ _ c.deref.ensures.value c.in_ok-config.ensures.ok c.in_ok-stats.ensures.read
    c.in_err-check_fits.ensures.fault)

pub returns-in_err-config-clause-read : goal.returns-in_err-config-clause-read
returns-in_err-config-clause-read c = IfOk-from_err c.from_residual.result _ c.from_residual.ensures.0

pub returns-in_err-config-clause-configured : goal.returns-in_err-config-clause-configured
returns-in_err-config-clause-configured c = IfOk-from_err c.from_residual.result _ c.from_residual.ensures.0

pub returns-in_err-stats-clause-read : goal.returns-in_err-stats-clause-read
returns-in_err-stats-clause-read c = IfOk-from_err c.from_residual-in_err-stats.result _ c.from_residual-in_err-stats.ensures.0

pub returns-in_err-stats-clause-configured : goal.returns-in_err-stats-clause-configured
returns-in_err-stats-clause-configured c = IfOk-from_err c.from_residual-in_err-stats.result _ c.from_residual-in_err-stats.ensures.0

pub returns-in_err-check_fits-clause-read : goal.returns-in_err-check_fits-clause-read
returns-in_err-check_fits-clause-read c = IfOk-from_err c.from_residual-in_err-check_fits.result _ c.from_residual-in_err-check_fits.ensures.0

pub returns-in_err-check_fits-clause-configured : goal.returns-in_err-check_fits-clause-configured
returns-in_err-check_fits-clause-configured c = IfOk-from_err c.from_residual-in_err-check_fits.result _ c.from_residual-in_err-check_fits.ensures.0

pub returns-clause-fault : goal.returns-clause-fault
returns-clause-fault c = tt

use Rattle.config_reader.proofs.Refusing.{same_fault}
use Rattle.std.proofs.Common.{inl, inr}
use Rattle.std.proofs.lemmas.Result.{IfOk-from_err}
use Rattle.answers.proofs.NamedFacts.{holds_run, run_refused, commands_refused}
use Rattle.answers.proofs.tables.read_tables.Goals as goal

pub returns-in_err-run-clause-fault : goal.returns-in_err-run-clause-fault
returns-in_err-run-clause-fault c =
    rw (same_fault c.from_residual.result _ c.from_residual.ensures) (run_refused _ _ _ _ (rw c.deref.ensures.value at c.in_err-run.ensures.fault))

pub returns-in_err-rows-clause-fault : goal.returns-in_err-rows-clause-fault
returns-in_err-rows-clause-fault c =
    let run = holds_run _ c.args.stats.now.bytes.items _ _ (rw c.deref.ensures.value at c.in_ok-run.ensures.read) c.in_ok-run.ensures.configured in
    rw (same_fault c.from_residual-in_err-rows.result _ c.from_residual-in_err-rows.ensures)
    (commands_refused _ _ _ _ _ run (inl (rw c.deref-2.ensures.value at c.in_err-rows.ensures.refused)))

pub returns-in_err-check_of_run-clause-fault : goal.returns-in_err-check_of_run-clause-fault
returns-in_err-check_of_run-clause-fault c =
    let run = holds_run _ c.args.stats.now.bytes.items _ _ (rw c.deref.ensures.value at c.in_ok-run.ensures.read) c.in_ok-run.ensures.configured in
    rw (same_fault c.from_residual-in_err-check_of_run.result _ c.from_residual-in_err-check_of_run.ensures)
    (commands_refused _ _ _ _ _ run (inr (record {
      commands = c.in_ok-rows.rows;
      commands_are = rw c.deref-2.ensures.value at c.in_ok-rows.ensures.read;
      named = c.in_err-check_of_run.ensures.fault;
    })))

pub returns-in_err-run-clause-tables : goal.returns-in_err-run-clause-tables
returns-in_err-run-clause-tables c = IfOk-from_err c.from_residual.result _ c.from_residual.ensures.0

pub returns-in_err-run-clause-configured : goal.returns-in_err-run-clause-configured
returns-in_err-run-clause-configured c = IfOk-from_err c.from_residual.result _ c.from_residual.ensures.0

pub returns-in_err-run-clause-of_run : goal.returns-in_err-run-clause-of_run
returns-in_err-run-clause-of_run c = IfOk-from_err c.from_residual.result _ c.from_residual.ensures.0

pub returns-in_err-rows-clause-tables : goal.returns-in_err-rows-clause-tables
returns-in_err-rows-clause-tables c = IfOk-from_err c.from_residual-in_err-rows.result _ c.from_residual-in_err-rows.ensures.0

pub returns-in_err-rows-clause-configured : goal.returns-in_err-rows-clause-configured
returns-in_err-rows-clause-configured c = IfOk-from_err c.from_residual-in_err-rows.result _ c.from_residual-in_err-rows.ensures.0

pub returns-in_err-rows-clause-of_run : goal.returns-in_err-rows-clause-of_run
returns-in_err-rows-clause-of_run c = IfOk-from_err c.from_residual-in_err-rows.result _ c.from_residual-in_err-rows.ensures.0

pub returns-in_err-check_of_run-clause-tables : goal.returns-in_err-check_of_run-clause-tables
returns-in_err-check_of_run-clause-tables c =
    IfOk-from_err c.from_residual-in_err-check_of_run.result _ c.from_residual-in_err-check_of_run.ensures.0

pub returns-in_err-check_of_run-clause-configured : goal.returns-in_err-check_of_run-clause-configured
returns-in_err-check_of_run-clause-configured c =
    IfOk-from_err c.from_residual-in_err-check_of_run.result _ c.from_residual-in_err-check_of_run.ensures.0

pub returns-in_err-check_of_run-clause-of_run : goal.returns-in_err-check_of_run-clause-of_run
returns-in_err-check_of_run-clause-of_run c =
    IfOk-from_err c.from_residual-in_err-check_of_run.result _ c.from_residual-in_err-check_of_run.ensures.0

pub returns-clause-fault : goal.returns-clause-fault
returns-clause-fault c = tt

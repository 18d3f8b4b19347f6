use Rattle.std.proofs.Common.{◌++◌, inl, inr, ap, ◌∙◌}
use Rattle.whole_files.specs.Tables.{parts}
use Rattle.std.proofs.lemmas.Result.{on_ok_weaker, IfErr-weaker, IfOk-from_err}
use Rattle.whole_files.proofs.Places.{written_from, left_from}
use Rattle.sim_base.proofs.Results.{when_ok, both_on_ok}
use Rattle.program.proofs.runs.perform_run.Goals as goal

pub returns-clause-done : goal.returns-clause-done
returns-clause-done g c =
    both_on_ok c.write_tables.result
    (λ h opened tells. record {
      run = c.in_ok-run.run';
      outcome = c.in_ok-run.ensures.outcome tells;
      written = written_from _ _ _ _ _ (c.run_files.ensures.same tells) (h tells);
      opened_are = opened tells ∙ ap (λ x. x ++ parts c.args.asked.now.out.now c.in_ok-run.run') (c.run_files.ensures.unopened tells);
    })
    c.write_tables.ensures.written c.write_tables.ensures.noted

pub returns-clause-refused : goal.returns-clause-refused
returns-clause-refused g c =
    IfErr-weaker c.write_tables.result _ _
    (λ refusal h tells. elim (left_from refusal c.args.asked.now.out.now c.in_ok-run.run' _ _ _ _ _ _ (c.run_files.ensures.same tells) (c.run_files.ensures.unopened tells) (h tells)) [
      | inl all ↦ inl all
      | inr unplaced ↦ inr (record { run = c.in_ok-run.run'; folder = when_ok c.test_folder-folder.result c.test_folder-folder.ensures.there c.in_ok-run.ensures.folder tells; outcome = c.in_ok-run.ensures.outcome tells; unplaced = unplaced })
    ])
    c.write_tables.ensures.refused

pub returns-clause-folder : goal.returns-clause-folder
returns-clause-folder g c =
    on_ok_weaker c.write_tables.result (λ h tells. when_ok c.test_folder-folder.result c.test_folder-folder.ensures.there c.in_ok-run.ensures.folder tells) c.write_tables.ensures.noted

pub returns-in_err-run-clause-done : goal.returns-in_err-run-clause-done
returns-in_err-run-clause-done g c = IfOk-from_err c.from_residual.result _ c.from_residual.ensures.0

pub returns-in_err-run-clause-folder : goal.returns-in_err-run-clause-folder
returns-in_err-run-clause-folder g c = IfOk-from_err c.from_residual.result _ c.from_residual.ensures.0

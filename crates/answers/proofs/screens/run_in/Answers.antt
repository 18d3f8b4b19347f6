use Rattle.config_reader.proofs.Refusing.{same_fault}
use Rattle.std.proofs.lemmas.Result.{IfOk-from_err}
use Rattle.answers.specs.Answers.{stats_path}
use Rattle.std.proofs.Common.{inl, refl, ◌≡◌, ◌∙◌}
use Rattle.answers.proofs.screens.run_in.Goals as goal

pub returns-in_err-path-clause-stats : goal.returns-in_err-path-clause-stats
returns-in_err-path-clause-stats g c = IfOk-from_err c.from_residual.result _ c.from_residual.ensures.0

pub returns-in_err-path-clause-configured : goal.returns-in_err-path-clause-configured
returns-in_err-path-clause-configured g c = IfOk-from_err c.from_residual.result _ c.from_residual.ensures.0

pub returns-in_err-path-clause-ready : goal.returns-in_err-path-clause-ready
returns-in_err-path-clause-ready g c = IfOk-from_err c.from_residual.result _ c.from_residual.ensures.0

pub returns-in_err-path-clause-fault : goal.returns-in_err-path-clause-fault
returns-in_err-path-clause-fault g c =
    rw (same_fault c.from_residual.result _ c.from_residual.ensures) (inl (inl c.in_err-path.ensures.fault))

pub returns-in_err-path-clause-same : goal.returns-in_err-path-clause-same
returns-in_err-path-clause-same g c = λ t path. refl

pub returns-in_err-path-clause-unopened : goal.returns-in_err-path-clause-unopened
returns-in_err-path-clause-unopened g c = λ t. refl

pub returns-clause-stats : goal.returns-clause-stats
returns-clause-stats g c =
    let one : c.as_str.result.now ≡ stats_path c.args.folder.now.dir.now = c.as_str.ensures.value ∙ c.in_ok-path.ensures.path in
    rw one at c.run_at.ensures.stats

pub returns-clause-configured : goal.returns-clause-configured
returns-clause-configured g c = c.run_at.ensures.configured

pub returns-clause-ready : goal.returns-clause-ready
returns-clause-ready g c =
    let one : c.as_str.result.now ≡ stats_path c.args.folder.now.dir.now = c.as_str.ensures.value ∙ c.in_ok-path.ensures.path in
    rw one at c.run_at.ensures.ready

pub returns-clause-fault : goal.returns-clause-fault
returns-clause-fault g c =
    let one : c.as_str.result.now ≡ stats_path c.args.folder.now.dir.now = c.as_str.ensures.value ∙ c.in_ok-path.ensures.path in
    rw one at c.run_at.ensures.fault

pub returns-clause-same : goal.returns-clause-same
returns-clause-same g c = c.run_at.ensures.same

pub returns-clause-unopened : goal.returns-clause-unopened
returns-clause-unopened g c = c.run_at.ensures.unopened

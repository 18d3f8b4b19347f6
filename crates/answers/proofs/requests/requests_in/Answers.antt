use Rattle.config_reader.proofs.Refusing.{same_fault}
use Rattle.std.proofs.lemmas.Result.{IfOk-from_err}
use Rattle.answers.specs.Requests.{requests_path}
use Rattle.std.proofs.Common.{refl, ◌≡◌, ◌∙◌}
use Rattle.answers.proofs.RequestFacts.{memory_refused}
use Rattle.answers.proofs.requests.requests_in.Goals as goal

pub returns-in_err-path-clause-found : goal.returns-in_err-path-clause-found
returns-in_err-path-clause-found g c = IfOk-from_err c.from_residual.result _ c.from_residual.ensures.0

pub returns-in_err-path-clause-fault : goal.returns-in_err-path-clause-fault
returns-in_err-path-clause-fault g c =
    rw (same_fault c.from_residual.result _ c.from_residual.ensures) (memory_refused _ _ _ _ _ c.in_err-path.ensures.fault)

pub returns-in_err-path-clause-same : goal.returns-in_err-path-clause-same
returns-in_err-path-clause-same g c = λ t path. refl

pub returns-in_err-path-clause-unopened : goal.returns-in_err-path-clause-unopened
returns-in_err-path-clause-unopened g c = λ t. refl

pub returns-clause-found : goal.returns-clause-found
returns-clause-found g c =
    let one : c.as_str.result.now ≡ requests_path c.args.dir.now = c.as_str.ensures.value ∙ c.in_ok-path.ensures.path in
    rw one at c.requests_at.ensures.found

pub returns-clause-fault : goal.returns-clause-fault
returns-clause-fault g c =
    let one : c.as_str.result.now ≡ requests_path c.args.dir.now = c.as_str.ensures.value ∙ c.in_ok-path.ensures.path in
    rw one at c.requests_at.ensures.fault

pub returns-clause-same : goal.returns-clause-same
returns-clause-same g c = c.requests_at.ensures.same

pub returns-clause-unopened : goal.returns-clause-unopened
returns-clause-unopened g c = c.requests_at.ensures.unopened

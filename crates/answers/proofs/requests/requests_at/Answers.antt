use Rattle.answers.proofs.RequestFacts.{memory_refused}
use Rattle.config_reader.proofs.Refusing.{same_fault}
use Rattle.std.proofs.lemmas.Result.{IfOk-from_err}
use Rattle.std.proofs.Common.{Some, option_map, ap, ◌∙◌}
use Rattle.answers.proofs.requests.requests_at.Goals as goal

pub returns-in_err-text-clause-found : goal.returns-in_err-text-clause-found
returns-in_err-text-clause-found g c = IfOk-from_err c.from_residual.result _ c.from_residual.ensures.0

pub returns-in_err-text-clause-fault : goal.returns-in_err-text-clause-fault
returns-in_err-text-clause-fault g c =
    rw (same_fault c.from_residual.result _ c.from_residual.ensures) (memory_refused _ _ _ _ _ c.in_err-text.ensures.fault)

pub returns-in_err-text-clause-same : goal.returns-in_err-text-clause-same
returns-in_err-text-clause-same g c = c.in_err-text.ensures.same

pub returns-in_err-text-clause-unopened : goal.returns-in_err-text-clause-unopened
returns-in_err-text-clause-unopened g c = c.in_err-text.ensures.unopened

pub returns-in_err-requests_of-in-Some-clause-found : goal.returns-in_err-requests_of-in-Some-clause-found
returns-in_err-requests_of-in-Some-clause-found g c =
    IfOk-from_err c.from_residual-in_err-requests_of-in-Some.result _ c.from_residual-in_err-requests_of-in-Some.ensures.0

pub returns-in_err-requests_of-in-Some-clause-fault : goal.returns-in_err-requests_of-in-Some-clause-fault
returns-in_err-requests_of-in-Some-clause-fault g c =
    rw (same_fault c.from_residual-in_err-requests_of-in-Some.result _ c.from_residual-in_err-requests_of-in-Some.ensures) (record {
      found = Some c.in-Some.text.items;
      found_is = λ t. c.in_ok-text.ensures.text t ∙ ap (option_map (λ x. x.items)) c.in-Some.is;
      fault_is = rw c.deref.ensures.value at c.in_err-requests_of-in-Some.ensures.fault;
    })

pub returns-in_err-requests_of-in-Some-clause-same : goal.returns-in_err-requests_of-in-Some-clause-same
returns-in_err-requests_of-in-Some-clause-same g c = c.in_ok-text.ensures.same

pub returns-in_err-requests_of-in-Some-clause-unopened : goal.returns-in_err-requests_of-in-Some-clause-unopened
returns-in_err-requests_of-in-Some-clause-unopened g c = c.in_ok-text.ensures.unopened

pub returns-in_ok-requests_of-in-Some-clause-fault : goal.returns-in_ok-requests_of-in-Some-clause-fault
returns-in_ok-requests_of-in-Some-clause-fault g c = tt

pub returns-in_ok-requests_of-in-Some-clause-same : goal.returns-in_ok-requests_of-in-Some-clause-same
returns-in_ok-requests_of-in-Some-clause-same g c = c.in_ok-text.ensures.same

pub returns-in_ok-requests_of-in-Some-clause-unopened : goal.returns-in_ok-requests_of-in-Some-clause-unopened
returns-in_ok-requests_of-in-Some-clause-unopened g c = c.in_ok-text.ensures.unopened

pub returns-in-None-clause-fault : goal.returns-in-None-clause-fault
returns-in-None-clause-fault g c = tt

pub returns-in-None-clause-same : goal.returns-in-None-clause-same
returns-in-None-clause-same g c = c.in_ok-text.ensures.same

pub returns-in-None-clause-unopened : goal.returns-in-None-clause-unopened
returns-in-None-clause-unopened g c = c.in_ok-text.ensures.unopened

use Rattle.config_reader.proofs.Refusing.{same_fault}
use Rattle.std.proofs.lemmas.Result.{IfOk-from_err}
use Rattle.std.proofs.Common.{refl}
use Rattle.answers.proofs.RequestFacts.{memory_refused}
use Rattle.answers.proofs.comparisons.tail_in.Goals as goal

pub returns-in_err-requests-clause-found : goal.returns-in_err-requests-clause-found
returns-in_err-requests-clause-found g c = IfOk-from_err c.from_residual.result _ c.from_residual.ensures.0

pub returns-in_err-requests-clause-fault : goal.returns-in_err-requests-clause-fault
returns-in_err-requests-clause-fault g c =
    rw (same_fault c.from_residual.result _ c.from_residual.ensures) c.in_err-requests.ensures.fault

pub returns-in_err-requests-clause-same : goal.returns-in_err-requests-clause-same
returns-in_err-requests-clause-same g c = c.in_err-requests.ensures.same

pub returns-in_err-requests-clause-unopened : goal.returns-in_err-requests-clause-unopened
returns-in_err-requests-clause-unopened g c = c.in_err-requests.ensures.unopened

pub returns-in_err-tail_of-in-Some-clause-found : goal.returns-in_err-tail_of-in-Some-clause-found
returns-in_err-tail_of-in-Some-clause-found g c =
    IfOk-from_err c.from_residual-in_err-tail_of-in-Some.result _ c.from_residual-in_err-tail_of-in-Some.ensures.0

pub returns-in_err-tail_of-in-Some-clause-fault : goal.returns-in_err-tail_of-in-Some-clause-fault
returns-in_err-tail_of-in-Some-clause-fault g c =
    rw (same_fault c.from_residual-in_err-tail_of-in-Some.result _ c.from_residual-in_err-tail_of-in-Some.ensures) (memory_refused _ _ _ _ _ refl)

pub returns-in_err-tail_of-in-Some-clause-same : goal.returns-in_err-tail_of-in-Some-clause-same
returns-in_err-tail_of-in-Some-clause-same g c = c.in_ok-requests.ensures.same

pub returns-in_err-tail_of-in-Some-clause-unopened : goal.returns-in_err-tail_of-in-Some-clause-unopened
returns-in_err-tail_of-in-Some-clause-unopened g c = c.in_ok-requests.ensures.unopened

pub returns-in_ok-tail_of-in-Some-clause-fault : goal.returns-in_ok-tail_of-in-Some-clause-fault
returns-in_ok-tail_of-in-Some-clause-fault g c = tt

pub returns-in_ok-tail_of-in-Some-clause-same : goal.returns-in_ok-tail_of-in-Some-clause-same
returns-in_ok-tail_of-in-Some-clause-same g c = c.in_ok-requests.ensures.same

pub returns-in_ok-tail_of-in-Some-clause-unopened : goal.returns-in_ok-tail_of-in-Some-clause-unopened
returns-in_ok-tail_of-in-Some-clause-unopened g c = c.in_ok-requests.ensures.unopened

pub returns-in-None-clause-fault : goal.returns-in-None-clause-fault
returns-in-None-clause-fault g c = tt

pub returns-in-None-clause-same : goal.returns-in-None-clause-same
returns-in-None-clause-same g c = c.in_ok-requests.ensures.same

pub returns-in-None-clause-unopened : goal.returns-in-None-clause-unopened
returns-in-None-clause-unopened g c = c.in_ok-requests.ensures.unopened

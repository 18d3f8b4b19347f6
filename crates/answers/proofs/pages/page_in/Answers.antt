use Rattle.config_reader.proofs.Refusing.{same_fault}
use Rattle.std.proofs.lemmas.Result.{IfOk-from_err}
use Rattle.std.proofs.Common.{option_map, inl}
use Rattle.answers.proofs.PageFacts.{text_unwritten}
use Rattle.answers.proofs.pages.page_in.Goals as goal

pub returns-clause-requests : goal.returns-clause-requests
returns-clause-requests g c = λ tells. record { requests = option_map (λ r. r.items) c.in_ok-requests.requests; requests_are = c.in_ok-requests.ensures.found tells }

pub returns-clause-warned : goal.returns-clause-warned
returns-clause-warned g c = rw c.deref.ensures.value at c.warning_of-warning.ensures

pub returns-in_err-requests-clause-requests : goal.returns-in_err-requests-clause-requests
returns-in_err-requests-clause-requests g c = IfOk-from_err c.from_residual.result _ c.from_residual.ensures.0

pub returns-clause-document : goal.returns-clause-document
returns-clause-document g c = c.in_ok-text.ensures.document

pub returns-in_err-requests-clause-document : goal.returns-in_err-requests-clause-document
returns-in_err-requests-clause-document g c = IfOk-from_err c.from_residual.result _ c.from_residual.ensures.0

pub returns-in_err-text-clause-document : goal.returns-in_err-text-clause-document
returns-in_err-text-clause-document g c =
    IfOk-from_err c.from_residual-in_err-text.result _ c.from_residual-in_err-text.ensures.0

pub returns-in_err-requests-clause-warned : goal.returns-in_err-requests-clause-warned
returns-in_err-requests-clause-warned g c = IfOk-from_err c.from_residual.result _ c.from_residual.ensures.0

pub returns-in_err-requests-clause-fault : goal.returns-in_err-requests-clause-fault
returns-in_err-requests-clause-fault g c =
    rw (same_fault c.from_residual.result _ c.from_residual.ensures) (inl c.in_err-requests.ensures.fault)

pub returns-in_err-requests-clause-same : goal.returns-in_err-requests-clause-same
returns-in_err-requests-clause-same g c = c.in_err-requests.ensures.same

pub returns-in_err-requests-clause-unopened : goal.returns-in_err-requests-clause-unopened
returns-in_err-requests-clause-unopened g c = c.in_err-requests.ensures.unopened

pub returns-in_err-text-clause-requests : goal.returns-in_err-text-clause-requests
returns-in_err-text-clause-requests g c =
    IfOk-from_err c.from_residual-in_err-text.result _ c.from_residual-in_err-text.ensures.0

pub returns-in_err-text-clause-warned : goal.returns-in_err-text-clause-warned
returns-in_err-text-clause-warned g c =
    IfOk-from_err c.from_residual-in_err-text.result _ c.from_residual-in_err-text.ensures.0

pub returns-in_err-text-clause-fault : goal.returns-in_err-text-clause-fault
returns-in_err-text-clause-fault g c =
    rw (same_fault c.from_residual-in_err-text.result _ c.from_residual-in_err-text.ensures) (text_unwritten _ _ _ _ _ c.in_err-text.ensures.fault
    (λ t. record { requests = option_map (λ r. r.items) c.in_ok-requests.requests; requests_are = c.in_ok-requests.ensures.found t }))

pub returns-in_err-text-clause-same : goal.returns-in_err-text-clause-same
returns-in_err-text-clause-same g c = c.in_ok-requests.ensures.same

pub returns-in_err-text-clause-unopened : goal.returns-in_err-text-clause-unopened
returns-in_err-text-clause-unopened g c = c.in_ok-requests.ensures.unopened

pub returns-clause-fault : goal.returns-clause-fault
returns-clause-fault g c = tt

pub returns-clause-same : goal.returns-clause-same
returns-clause-same g c = c.in_ok-requests.ensures.same

pub returns-clause-unopened : goal.returns-clause-unopened
returns-clause-unopened g c = c.in_ok-requests.ensures.unopened

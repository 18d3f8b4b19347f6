use Rattle.config_reader.proofs.Refusing.{same_fault}
use Rattle.std.proofs.lemmas.Result.{IfOk-from_err}
use Rattle.std.proofs.Common.{inl, inr, refl}
use Rattle.answers.proofs.NamedFacts.{err_with, unprinted_by}
use Rattle.answers.proofs.verdicts.perform_check.Goals as goal

pub returns-in_err-found-clause-checked : goal.returns-in_err-found-clause-checked
returns-in_err-found-clause-checked g c = IfOk-from_err c.from_residual.result _ c.from_residual.ensures.0

pub returns-in_err-found-clause-fault : goal.returns-in_err-found-clause-fault
returns-in_err-found-clause-fault g c =
    rw (same_fault c.from_residual.result _ c.from_residual.ensures) (inl c.in_err-found.ensures.fault)

pub returns-in_err-found-clause-same : goal.returns-in_err-found-clause-same
returns-in_err-found-clause-same g c = c.in_err-found.ensures.same

pub returns-in_err-found-clause-unopened : goal.returns-in_err-found-clause-unopened
returns-in_err-found-clause-unopened g c = c.in_err-found.ensures.unopened

pub returns-in_err-print_answer-clause-checked : goal.returns-in_err-print_answer-clause-checked
returns-in_err-print_answer-clause-checked g c =
    IfOk-from_err c.from_residual-in_err-print_answer.result _ c.from_residual-in_err-print_answer.ensures.0

pub returns-in_err-print_answer-clause-fault : goal.returns-in_err-print_answer-clause-fault
returns-in_err-print_answer-clause-fault g c =
    rw (same_fault c.from_residual-in_err-print_answer.result _ c.from_residual-in_err-print_answer.ensures) (elim c.in_err-print_answer.ensures.fault [
      | inl write ↦ inr (write.0, c.in_ok-found.ensures.ready)
      | inr made ↦ inl (inl (inl (err_with c.verdict_line_of.result _ _ c.verdict_line_of.ensures.fault made)))
    ])

pub returns-in_err-print_answer-clause-same : goal.returns-in_err-print_answer-clause-same
returns-in_err-print_answer-clause-same g c = c.in_ok-found.ensures.same

pub returns-in_err-print_answer-clause-unopened : goal.returns-in_err-print_answer-clause-unopened
returns-in_err-print_answer-clause-unopened g c = c.in_ok-found.ensures.unopened

pub returns-clause-fault : goal.returns-clause-fault
returns-clause-fault g c = tt

pub returns-clause-same : goal.returns-clause-same
returns-clause-same g c = c.in_ok-found.ensures.same

pub returns-clause-unopened : goal.returns-clause-unopened
returns-clause-unopened g c = c.in_ok-found.ensures.unopened

pub returns-in_err-found-clause-unprinted : goal.returns-in_err-found-clause-unprinted
returns-in_err-found-clause-unprinted g c = rw (same_fault c.from_residual.result _ c.from_residual.ensures) (λ other. refl)

pub returns-in_err-print_answer-clause-unprinted : goal.returns-in_err-print_answer-clause-unprinted
returns-in_err-print_answer-clause-unprinted g c =
    rw (same_fault c.from_residual-in_err-print_answer.result _ c.from_residual-in_err-print_answer.ensures)
    (λ other. unprinted_by c.verdict_line_of.result _ _ c.in_err-print_answer.ensures.fault c.in_err-print_answer.ensures.unprinted other)

pub returns-clause-unprinted : goal.returns-clause-unprinted
returns-clause-unprinted g c = tt

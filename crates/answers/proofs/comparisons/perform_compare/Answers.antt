use Rattle.config_reader.proofs.Refusing.{same_fault}
use Rattle.std.proofs.lemmas.Result.{IfErr-weaker, IfOk-from_err}
use Rattle.std.proofs.Common.{inl, inr, refl, ◌∙◌}
use Rattle.answers.specs.Refused.{IsCompareFault}
use Rattle.answers.proofs.RequestFacts.{texts_refused, tails_refused, right_compare}
use Rattle.answers.proofs.comparisons.perform_compare.Goals as goal

pub returns-in_err-runs-clause-compared : goal.returns-in_err-runs-clause-compared
returns-in_err-runs-clause-compared g c = IfOk-from_err c.from_residual.result _ c.from_residual.ensures.0

pub returns-in_err-runs-clause-fault : goal.returns-in_err-runs-clause-fault
returns-in_err-runs-clause-fault g c =
    rw (same_fault c.from_residual.result _ c.from_residual.ensures) (inl (texts_refused _ _ _ IsCompareFault _ _ (λ texts wrong. inl wrong) c.in_err-runs.ensures.fault))

pub returns-in_err-runs-clause-same : goal.returns-in_err-runs-clause-same
returns-in_err-runs-clause-same g c = c.in_err-runs.ensures.same

pub returns-in_err-runs-clause-unopened : goal.returns-in_err-runs-clause-unopened
returns-in_err-runs-clause-unopened g c = c.in_err-runs.ensures.unopened

pub returns-in_err-tails-clause-compared : goal.returns-in_err-tails-clause-compared
returns-in_err-tails-clause-compared g c =
    IfOk-from_err c.from_residual-in_err-tails.result _ c.from_residual-in_err-tails.ensures.0

pub returns-in_err-tails-clause-fault : goal.returns-in_err-tails-clause-fault
returns-in_err-tails-clause-fault g c =
    rw (same_fault c.from_residual-in_err-tails.result _ c.from_residual-in_err-tails.ensures) (inl (tails_refused _ _ _ _ _ _ _ c.in_ok-runs.ensures.ready c.in_ok-runs.ensures.same (rw c.deref.ensures.value at c.in_err-tails.ensures.fault)))

pub returns-in_err-tails-clause-same : goal.returns-in_err-tails-clause-same
returns-in_err-tails-clause-same g c = λ t path. c.in_err-tails.ensures.same t path ∙ c.in_ok-runs.ensures.same t path

pub returns-in_err-tails-clause-unopened : goal.returns-in_err-tails-clause-unopened
returns-in_err-tails-clause-unopened g c = λ t. c.in_err-tails.ensures.unopened t ∙ c.in_ok-runs.ensures.unopened t

pub returns-in_err-text-clause-compared : goal.returns-in_err-text-clause-compared
returns-in_err-text-clause-compared g c =
    IfOk-from_err c.from_residual-in_err-text.result _ c.from_residual-in_err-text.ensures.0

pub returns-in_err-text-clause-fault : goal.returns-in_err-text-clause-fault
returns-in_err-text-clause-fault g c =
    rw (same_fault c.from_residual-in_err-text.result _ c.from_residual-in_err-text.ensures) (inl (inl (inl refl)))

pub returns-in_err-text-clause-same : goal.returns-in_err-text-clause-same
returns-in_err-text-clause-same g c = λ t path. c.in_ok-tails.ensures.same t path ∙ c.in_ok-runs.ensures.same t path

pub returns-in_err-text-clause-unopened : goal.returns-in_err-text-clause-unopened
returns-in_err-text-clause-unopened g c = λ t. c.in_ok-tails.ensures.unopened t ∙ c.in_ok-runs.ensures.unopened t

pub returns-clause-same : goal.returns-clause-same
returns-clause-same g c = λ t path. c.in_ok-tails.ensures.same t path ∙ c.in_ok-runs.ensures.same t path

pub returns-clause-unopened : goal.returns-clause-unopened
returns-clause-unopened g c = λ t. c.in_ok-tails.ensures.unopened t ∙ c.in_ok-runs.ensures.unopened t

pub returns-clause-fault : goal.returns-clause-fault
returns-clause-fault g c =
    IfErr-weaker c.print_text.result _ _ (λ e is. inr (is, right_compare _ _ _ _ _ _ _ c.in_ok-runs.ensures.ready c.in_ok-runs.ensures.same (rw c.deref.ensures.value at c.in_ok-tails.ensures.tails))) c.print_text.ensures.fault

pub returns-in_err-runs-clause-unprinted : goal.returns-in_err-runs-clause-unprinted
returns-in_err-runs-clause-unprinted g c = rw (same_fault c.from_residual.result _ c.from_residual.ensures) (λ other. refl)

pub returns-in_err-tails-clause-unprinted : goal.returns-in_err-tails-clause-unprinted
returns-in_err-tails-clause-unprinted g c = rw (same_fault c.from_residual-in_err-tails.result _ c.from_residual-in_err-tails.ensures) (λ other. refl)

pub returns-in_err-text-clause-unprinted : goal.returns-in_err-text-clause-unprinted
returns-in_err-text-clause-unprinted g c = rw (same_fault c.from_residual-in_err-text.result _ c.from_residual-in_err-text.ensures) (λ other. refl)

pub returns-clause-unprinted : goal.returns-clause-unprinted
returns-clause-unprinted g c = IfErr-weaker c.print_text.result _ _ (λ e is other. absurd (other is)) c.print_text.ensures.fault

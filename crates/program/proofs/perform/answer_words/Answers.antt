use Rattle.std.proofs.Common.{inr, refl}
use Rattle.std.proofs.lemmas.Result.{IfOk-weaker, IfErr-weaker, IfOk-from_err}
use Rattle.program.proofs.AnswerFacts.{unwarned_unless_page}
use Rattle.program.proofs.DoneFacts.{err_each}
use Rattle.program.proofs.perform.answer_words.Goals as goal

pub returns-clause-unwarned : goal.returns-clause-unwarned
returns-clause-unwarned g c =
    IfOk-weaker c.answer.result _ _ (λ done unwarned. unwarned_unless_page _ c.in_ok-ask.ask done.warning c.in_ok-ask.ensures.asked unwarned) c.answer.ensures.unwarned

pub returns-clause-fault : goal.returns-clause-fault
returns-clause-fault g c =
    IfErr-weaker c.answer.result _ _ (λ refusal refused. inr (inr (record { ask = c.in_ok-ask.ask; asked = c.in_ok-ask.ensures.asked; refused = refused }))) c.answer.ensures.fault

pub returns-in_err-ask-clause-answered : goal.returns-in_err-ask-clause-answered
returns-in_err-ask-clause-answered g c = IfOk-from_err c.from_residual.result _ c.from_residual.ensures.0

pub returns-in_err-ask-clause-status : goal.returns-in_err-ask-clause-status
returns-in_err-ask-clause-status g c = IfOk-from_err c.from_residual.result _ c.from_residual.ensures.0

pub returns-in_err-ask-clause-unwarned : goal.returns-in_err-ask-clause-unwarned
returns-in_err-ask-clause-unwarned g c = IfOk-from_err c.from_residual.result _ c.from_residual.ensures.0

pub returns-clause-answered : goal.returns-clause-answered
returns-clause-answered g c =
    IfOk-weaker c.answer.result _ _ (λ done is tells. record { ask = c.in_ok-ask.ask; asked = c.in_ok-ask.ensures.asked; answer = is tells }) c.answer.ensures.answered

pub returns-clause-status : goal.returns-clause-status
returns-clause-status g c = c.answer.ensures.status

pub returns-clause-refused : goal.returns-clause-refused
returns-clause-refused g c =
    IfErr-weaker c.answer.result _ _ (λ refusal left tells. inr (record { ask = c.in_ok-ask.ask; asked = c.in_ok-ask.ensures.asked; left = left tells })) c.answer.ensures.refused

pub returns-in_err-ask-clause-unprinted : goal.returns-in_err-ask-clause-unprinted
returns-in_err-ask-clause-unprinted g c = err_each _ c.from_residual.result (λ e other. refl)

pub returns-clause-unprinted : goal.returns-clause-unprinted
returns-clause-unprinted g c = c.answer.ensures.unprinted

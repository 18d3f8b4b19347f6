use Rattle.std.proofs.lemmas.Result.{IfOk-from_err}
use Rattle.std.proofs.result.Match.{err_is}
use Rattle.program.proofs.printed.answer_check.Goals as goal

pub returns-in_err-found-clause-answered : goal.returns-in_err-found-clause-answered
returns-in_err-found-clause-answered g c = IfOk-from_err c.from_residual.result _ c.from_residual.ensures.0

pub returns-in_err-found-clause-status : goal.returns-in_err-found-clause-status
returns-in_err-found-clause-status g c = IfOk-from_err c.from_residual.result _ c.from_residual.ensures.0

pub returns-in_err-found-clause-unwarned : goal.returns-in_err-found-clause-unwarned
returns-in_err-found-clause-unwarned g c = IfOk-from_err c.from_residual.result _ c.from_residual.ensures.0

pub returns-in_err-found-clause-refused : goal.returns-in_err-found-clause-refused
returns-in_err-found-clause-refused g c =
    rw (err_is c.from_residual.result _ c.from_residual.ensures.1) (λ tells. record {
      kept = tt;
      untouched = record { same = c.in_err-found.ensures.same tells; unopened = c.in_err-found.ensures.unopened tells };
    })

pub returns-in_err-found-clause-fault : goal.returns-in_err-found-clause-fault
returns-in_err-found-clause-fault g c = rw (err_is c.from_residual.result _ c.from_residual.ensures.1) c.in_err-found.ensures.fault

pub returns-in_err-found-clause-unprinted : goal.returns-in_err-found-clause-unprinted
returns-in_err-found-clause-unprinted g c = rw (err_is c.from_residual.result _ c.from_residual.ensures.1) c.in_err-found.ensures.unprinted

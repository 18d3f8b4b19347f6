use Rattle.std.proofs.Common.{refl, inl}
use Rattle.std.proofs.lemmas.Result.{IfOk-from_err}
use Rattle.config_reader.proofs.Refusing.{same_fault}
use Rattle.answers.proofs.pages.put_page.Goals as goal

pub returns-in_ok-write_whole-in-Ok-clause-put : goal.returns-in_ok-write_whole-in-Ok-clause-put
returns-in_ok-write_whole-in-Ok-clause-put g c = rw c.in-Ok.is (refl, rw c.deref.ensures.value at c.in_ok-write_whole-in-Ok.ensures.whole)

pub returns-in_err-write_whole-in-Ok-clause-put : goal.returns-in_err-write_whole-in-Ok-clause-put
returns-in_err-write_whole-in-Ok-clause-put g c = IfOk-from_err c.from_residual.result _ c.from_residual.ensures.0

pub returns-in_err-write_whole-in-Ok-clause-noted : goal.returns-in_err-write_whole-in-Ok-clause-noted
returns-in_err-write_whole-in-Ok-clause-noted g c = IfOk-from_err c.from_residual.result _ c.from_residual.ensures.0

pub returns-in_err-write_whole-in-Ok-clause-fault : goal.returns-in_err-write_whole-in-Ok-clause-fault
returns-in_err-write_whole-in-Ok-clause-fault g c = rw (same_fault c.from_residual.result _ c.from_residual.ensures) (inl (c.in_err-write_whole-in-Ok.ensures.fault, rw c.in-Ok.is refl))

pub returns-in_ok-write_whole-in-Ok-clause-noted : goal.returns-in_ok-write_whole-in-Ok-clause-noted
returns-in_ok-write_whole-in-Ok-clause-noted g c = c.in_ok-write_whole-in-Ok.ensures.noted

pub returns-in_ok-write_whole-in-Ok-clause-refused : goal.returns-in_ok-write_whole-in-Ok-clause-refused
returns-in_ok-write_whole-in-Ok-clause-refused g c = tt

pub returns-in_ok-write_whole-in-Ok-clause-fault : goal.returns-in_ok-write_whole-in-Ok-clause-fault
returns-in_ok-write_whole-in-Ok-clause-fault g c = tt

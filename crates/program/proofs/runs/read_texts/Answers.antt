use Rattle.answers.proofs.ManyFiles.{map_all}
use Rattle.std.proofs.lemmas.Result.{IfOk-from_err}
use Rattle.std.proofs.Common.{◌∙◌}
use Rattle.answers.proofs.ManyFiles.{not_read_at}
use Rattle.config_reader.proofs.Refusing.{same_fault}
use Rattle.program.proofs.runs.read_texts.Goals as goal

pub returns-in_err-text-clause-fault : goal.returns-in_err-text-clause-fault
returns-in_err-text-clause-fault g c =
    rw (same_fault c.from_residual.result _ c.from_residual.ensures)
    (not_read_at _ _ _ (λ p. p.now) c.args.paths.now _ _ _ c.loop-path-test.true c.loop-path.invariant.same c.in_err-text.ensures.fault)

pub returns-in_err-text-clause-texts : goal.returns-in_err-text-clause-texts
returns-in_err-text-clause-texts g c = IfOk-from_err c.from_residual.result _ c.from_residual.ensures.0

pub returns-in_err-text-clause-count : goal.returns-in_err-text-clause-count
returns-in_err-text-clause-count g c = IfOk-from_err c.from_residual.result _ c.from_residual.ensures.0

pub returns-in_err-text-clause-same : goal.returns-in_err-text-clause-same
returns-in_err-text-clause-same g c = λ t path. c.in_err-text.ensures.same t path ∙ c.loop-path.invariant.same t path

pub returns-in_err-text-clause-unopened : goal.returns-in_err-text-clause-unopened
returns-in_err-text-clause-unopened g c = λ t. c.in_err-text.ensures.unopened t ∙ c.loop-path.invariant.unopened t

pub returns-clause-texts : goal.returns-clause-texts
returns-clause-texts g c =
    λ t. map_all _ c.args.paths.now c.loop-path.path-index c.loop-path-test.false ∙ c.loop-path.invariant.texts t

pub returns-clause-fault : goal.returns-clause-fault
returns-clause-fault g c = tt

pub returns-clause-same : goal.returns-clause-same
returns-clause-same g c = c.loop-path.invariant.same

pub returns-clause-unopened : goal.returns-clause-unopened
returns-clause-unopened g c = c.loop-path.invariant.unopened

pub returns-in_default-clause-texts : goal.returns-in_default-clause-texts
returns-in_default-clause-texts g c = tt

pub returns-in_default-clause-count : goal.returns-in_default-clause-count
returns-in_default-clause-count g c = tt

pub returns-in_default-clause-same : goal.returns-in_default-clause-same
returns-in_default-clause-same g c = λ t path. c.in_ok-text.ensures.same t path ∙ c.loop-path.invariant.same t path

pub returns-in_default-clause-unopened : goal.returns-in_default-clause-unopened
returns-in_default-clause-unopened g c = λ t. c.in_ok-text.ensures.unopened t ∙ c.loop-path.invariant.unopened t

use Rattle.std.proofs.Common.{ap, ◌∙◌, arith}
use Rattle.std.specs.Prelude.{is_err}
use Rattle.std.proofs.lemmas.List.{take_all}
use Rattle.std.proofs.lemmas.Result.{IfOk-from_err, err_from_is_err_and}
use Rattle.links.specs.Buffers.{count_to}
use Rattle.links.proofs.Counted.{counts_more}
use Rattle.links.proofs.flight.count_by_buffer.Goals as goal

pub loop-message-preserved : goal.loop-message-preserved
loop-message-preserved c =
    counts_more _ _ _ _ _ _ _ c.loop-message-test.true c.number_of.ensures.number c.in_ok-count_one.ensures c.loop-message.invariant

pub returns-in_err-count_one : goal.returns-in_err-count_one
returns-in_err-count_one c = IfOk-from_err c.from_residual.result _ (ap is_err (err_from_is_err_and c.from_residual.result c.from_residual.ensures.1).1)

pub returns : goal.returns
returns c n = c.loop-message.invariant n ∙ ap (count_to c.args.channels n) (take_all c.loop-message.message-index c.args.messages.now (omega arith))

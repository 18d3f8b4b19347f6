use Rattle.std.proofs.Common.{◌<◌, length, arith}
use Rattle.reports.specs.Final.{queued_fields}
use Rattle.reports.proofs.RowLemmas.{added-more, nothing_added}
use Rattle.reports.proofs.TableLemmas.{mapped_none, mapped_more}
use Rattle.reports.proofs.final_state.write_queue.Goals as goal

pub loop-request-init : goal.loop-request-init
loop-request-init g c = nothing_added _ _ (mapped_none (queued_fields c.args.ranks c.args.channel))

pub loop-request-preserved : goal.loop-request-preserved
loop-request-preserved g c =
    let here : c.loop-request.request-index < length c.args.queue.now = omega arith in
    let written = rw (c.queued_word-item.ensures.word, c.from.ensures, c.from-in-loop-request.ensures, c.from-in-loop-request-2.ensures, c.from-in-loop-request-3.ensures) at c.write_numbers.ensures in
    let joined = added-more _ _ _ _ _ c.loop-request.invariant written in
    rw (← mapped_more (queued_fields c.args.ranks c.args.channel) c.args.queue.now c.loop-request.request-index _ here) at joined

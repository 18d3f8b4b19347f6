use Rattle.std.proofs.Common.{◌<◌, length, arith}
use Rattle.reports.specs.Final.{due_rows}
use Rattle.reports.proofs.RowLemmas.{added-more, nothing_added}
use Rattle.reports.proofs.TableLemmas.{rows_text-one, numbered_none, numbered_more}
use Rattle.reports.proofs.final_state.write_due.Goals as goal

pub loop-rank-init : goal.loop-rank-init
loop-rank-init g c = nothing_added _ _ (numbered_none (due_rows c.args.ranks c.args.channel))

pub loop-rank-preserved : goal.loop-rank-preserved
loop-rank-preserved g c =
    let here : c.loop-rank.rank < length c.args.due.now = omega arith in
    let written = rw (← rows_text-one) at c.write_numbers.ensures in
    let joined = added-more _ _ _ _ _ c.loop-rank.invariant written in
    rw (← numbered_more (due_rows c.args.ranks c.args.channel) c.args.due.now c.loop-rank.rank 0 here) at joined

use Rattle.std.proofs.Common.{◌<◌, length, arith}
use Rattle.reports.specs.Final.{credit_rows}
use Rattle.reports.proofs.RowLemmas.{added-more, nothing_added}
use Rattle.reports.proofs.TableLemmas.{added-two, numbered_none, numbered_more}
use Rattle.reports.proofs.final_state.write_credits_of_core.Goals as goal

pub loop-channel-init : goal.loop-channel-init
loop-channel-init g c = nothing_added _ _ (numbered_none (credit_rows c.args.ranks c.args.core))

pub loop-channel-preserved : goal.loop-channel-preserved
loop-channel-preserved g c =
    let here : c.loop-channel.channel < length c.args.credits.now = omega arith in
    let of_reads = rw c.numbers_of_core-of_reads.ensures at c.write_numbers.ensures in
    let of_writes = rw c.numbers_of_core-of_writes.ensures at c.write_numbers-in-loop-channel.ensures in
    let joined = added-more _ _ _ _ _ c.loop-channel.invariant (added-two _ _ _ _ _ of_reads of_writes) in
    rw (← numbered_more (credit_rows c.args.ranks c.args.core) c.args.credits.now c.loop-channel.channel _ here) at joined

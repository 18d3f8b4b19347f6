use Rattle.std.proofs.Common.{◌<◌, length, arith}
use Rattle.reports.specs.Final.{flight_fields}
use Rattle.reports.proofs.RowLemmas.{added-more, nothing_added}
use Rattle.reports.proofs.TableLemmas.{mapped_none, mapped_more}
use Rattle.reports.proofs.final_state.write_in_flight.Goals as goal

pub loop-message-init : goal.loop-message-init
loop-message-init g c = nothing_added _ _ (mapped_none (flight_fields c.args.ranks c.args.channels))

pub loop-message-preserved : goal.loop-message-preserved
loop-message-preserved g c =
    let here : c.loop-message.message-index < length c.args.in_flight.now = omega arith in
    let written = rw (c.flight_word-item.ensures.word, c.numbers_of_flight.ensures) at c.write_numbers.ensures in
    let joined = added-more _ _ _ _ _ c.loop-message.invariant written in
    rw (← mapped_more (flight_fields c.args.ranks c.args.channels) c.args.in_flight.now c.loop-message.message-index _ here) at joined

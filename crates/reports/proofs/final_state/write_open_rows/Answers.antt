use Rattle.std.proofs.Common.{◌<◌, length, arith}
use Rattle.reports.specs.Final.{open_fields}
use Rattle.reports.proofs.RowLemmas.{added-more, nothing_added}
use Rattle.reports.proofs.TableLemmas.{mapped_none, mapped_more}
use Rattle.reports.proofs.final_state.write_open_rows.Goals as goal

pub loop-opened-init : goal.loop-opened-init
loop-opened-init g c = nothing_added _ _ (mapped_none (open_fields c.args.ranks c.args.channel))

pub loop-opened-preserved : goal.loop-opened-preserved
loop-opened-preserved g c =
    let here : c.loop-opened.opened-index < length c.args.open_rows.now = omega arith in
    let written = rw (c.from.ensures, c.from-in-loop-opened.ensures, c.from-in-loop-opened-2.ensures, c.from-in-loop-opened-3.ensures) at c.write_numbers.ensures in
    let joined = added-more _ _ _ _ _ c.loop-opened.invariant written in
    rw (mapped_more (open_fields c.args.ranks c.args.channel) c.args.open_rows.now c.loop-opened.opened-index (record { bank = record { rank = 0; group = 0; bank = 0 }; row = 0 }) here) joined

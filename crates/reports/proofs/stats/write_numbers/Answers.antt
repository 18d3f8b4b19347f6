use Rattle.std.proofs.Common.{◌<◌, length, None, arith}
use Rattle.reports.specs.Stats.{value_fields}
use Rattle.reports.proofs.RowLemmas.{added-more, nothing_added}
use Rattle.reports.proofs.TableLemmas.{named_none, named_more}
use Rattle.reports.proofs.stats.write_numbers.Goals as goal

pub loop-place-init : goal.loop-place-init
loop-place-init g c = nothing_added _ _ (named_none (value_fields c.args.unit.scope.now c.args.unit.id))

pub loop-place-preserved : goal.loop-place-preserved
loop-place-preserved g c =
    let here : c.loop-place.place < length c.args.counters.now = omega arith in
    let joined = added-more _ _ _ _ _ c.loop-place.invariant c.write_number.ensures in
    let more = named_more (value_fields c.args.unit.scope.now c.args.unit.id) c.args.counters.now c.args.numbers.now c.loop-place.place c.index-counters-place.result None here c.requires in
    let next = rw (← c.index-counters-place.is) at more in
    rw (← next) at joined

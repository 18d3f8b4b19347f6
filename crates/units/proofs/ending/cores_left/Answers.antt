use Rattle.std.proofs.Common.{◌<◌, ◌∙◌, ap, sym, subst, get_or}
use Rattle.sim_base.specs.Machine.{run}
use Rattle.sim_base.specs.declared.message.Unit.TheVariants as unit
use Rattle.statistics.specs.Runs.{final_of_core}
use Rattle.units.specs.Parts.{IsPart}
use Rattle.units.proofs.Counted.{core-stands, places-then}
use Rattle.units.proofs.ending.cores_left.Goals as goal

pub core_left-requires : goal.core_left-requires
core_left-requires c =
    let machine = c.args.machine.now in
    let s = machine.config in
    let traces = machine.traces.items in
    let now = c.args.now in
    let l = c.loop-core in
    let k : l.core < s.cores = c.loop-core-test.true in
    let stands = core-stands machine now c.args.parts.now l.core c.index-parts-from.result c.requires.stand c.requires.count k in
    record {
      stands = subst (IsPart machine (unit.Core l.core) now) (ap (λ i. get_or c.args.parts.now i c.index-parts-from.result) (sym c.from.ensures) ∙ sym c.index-parts-from.is) stands;
    }

pub loop-core-preserved : goal.loop-core-preserved
loop-core-preserved c =
    let machine = c.args.machine.now in
    let s = machine.config in
    let traces = machine.traces.items in
    let now = c.args.now in
    let l = c.loop-core in
    c.in_ok-push.ensures.items ∙ places-then (final_of_core s traces (run s traces now)) l.core l.left.items _ l.invariant (c.in_ok-core_left.ensures {u = tt})

-- One core more is asked.
use Rattle.std.proofs.Common.{◌&&◌, sym, ap, ◌∙◌}
use Rattle.sim_base.specs.Machine.{run, is_retired}
use Rattle.one_clock.proofs.Units.{at_unit_of, below_units, list_all_below_more}
use Rattle.one_clock.proofs.machine.are_cores_retired.Goals.{then-all, else-all}
use Rattle.one_clock.proofs.machine.are_cores_retired.Goals as goal

pub bounds-cores-core : goal.bounds-cores-core
bounds-cores-core c = below_units _ _ _ _ c.requires.cores c.loop-core-test.true

pub is_core_retired-retired-requires-clause-past : goal.is_core_retired-retired-requires-clause-past
is_core_retired-retired-requires-clause-past c = c.index-cores-core.is ∙ at_unit_of _ _ _ _ _ c.requires.cores c.loop-core-test.true

pub loop-core-preserved : goal.loop-core-preserved
loop-core-preserved c =
    let here = c.loop-core.core in
    let p = is_retired c.args.cycle.now.traces.now (run c.args.cycle.now.config.now c.args.cycle.now.traces.now c.args.cycle.now.number) in
    elim c.if-all.branch [ then-all w ↦ w.all-is ∙ c.is_core_retired-retired.ensures ∙ ap (λ b. b && p here) (sym w.if-all.true ∙ c.loop-core.invariant) ∙ sym (list_all_below_more p here) | else-all w ↦ w.all-is ∙ w.if-all.false ∙ ap (λ b. b && p here) (sym w.if-all.false ∙ c.loop-core.invariant) ∙ sym (list_all_below_more p here) ]

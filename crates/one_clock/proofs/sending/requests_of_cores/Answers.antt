-- Each core is where the lists have it.
use Rattle.std.proofs.Common.{◌++◌, sym, ap, ap₂, ◌∙◌}
use Rattle.one_clock.proofs.Next.{step_alone}
use Rattle.one_clock.proofs.Units.{at_unit_of, below_units}
use Rattle.one_clock.proofs.sending.requests_of_cores.Goals as goal
use Rattle.sim_base.proofs.Lists.{flat_map_below-more}

pub bounds-cores-i : goal.bounds-cores-i
bounds-cores-i c = below_units _ _ _ _ c.requires.cores c.loop-core-test.true

pub bounds-steps-i : goal.bounds-steps-i
bounds-steps-i c = below_units _ _ _ _ c.requires.steps c.loop-core-test.true

pub requests_of_core-requires-clause-past : goal.requests_of_core-requires-clause-past
requests_of_core-requires-clause-past c = c.index-cores-i.is ∙ at_unit_of _ _ _ _ _ c.requires.cores c.loop-core-test.true

pub requests_of_core-requires-clause-step : goal.requests_of_core-requires-clause-step
requests_of_core-requires-clause-step c =
    ap (λ x. x.0) (at_unit_of _ _ _ _ _ c.requires.steps c.loop-core-test.true)
    ∙ step_alone c.args.cycle.now.config.now c.args.cycle.now.traces.now c.args.cycle.now.number c.loop-core.core

pub loop-core-preserved : goal.loop-core-preserved
loop-core-preserved c =
    (c.in_ok-extend_from_slice.ensures {u = tt}).items
    ∙ ap₂ (λ xs ys. xs ++ ys) c.loop-core.invariant (c.deref.ensures.value ∙ c.in_ok-more.ensures {u = tt})
    ∙ sym (flat_map_below-more _ c.loop-core.core)

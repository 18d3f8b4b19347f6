-- Each core is where the lists have it.
use Rattle.std.proofs.Common.{[], ◌∷◌, ◌++◌, sym, ap₂, ◌∙◌}
use Rattle.one_clock.proofs.Units.{at_unit_of, below_units}
use Rattle.one_clock.proofs.machine.next_steps_of_cores.Goals as goal
use Rattle.sim_base.proofs.Lists.{map_below-more}

pub bounds-cores-core : goal.bounds-cores-core
bounds-cores-core c = below_units _ _ _ _ c.requires.cores c.loop-core-test.true

pub next_step_of_core-requires-clause-past : goal.next_step_of_core-requires-clause-past
next_step_of_core-requires-clause-past c = c.index-cores-core.is ∙ at_unit_of _ _ _ _ _ c.requires.cores c.loop-core-test.true

pub loop-core-preserved : goal.loop-core-preserved
loop-core-preserved c =
    (c.in_ok-push.ensures {u = tt}).items
    ∙ ap₂ (λ xs x. xs ++ x ∷ []) c.loop-core.invariant c.next_step_of_core.ensures
    ∙ sym (map_below-more _ c.loop-core.core)

-- One core more has no past.
use Rattle.std.proofs.Common.{[], ◌∷◌, ◌++◌, sym, ap₂, ◌∙◌}
use Rattle.one_clock.proofs.Next.{core_view_none}
use Rattle.one_clock.proofs.machine.start_cores.Goals as goal
use Rattle.sim_base.proofs.Lists.{map_below-more}

pub loop-core-preserved : goal.loop-core-preserved
loop-core-preserved c =
    (c.in_ok-push.ensures {u = tt}).items
    ∙ ap₂ (λ xs x. xs ++ x ∷ []) c.loop-core.invariant (c.new.ensures ∙ core_view_none c.args.cycle.now.config.now c.args.cycle.now.traces.now c.args.cycle.now.number c.loop-core.core c.requires)
    ∙ sym (map_below-more _ c.loop-core.core)

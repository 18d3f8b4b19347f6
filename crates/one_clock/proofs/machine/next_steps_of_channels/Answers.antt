-- Each channel is where the lists have it.
use Rattle.std.proofs.Common.{[], ◌∷◌, ◌++◌, sym, ap₂, ◌∙◌, arith}
use Rattle.one_clock.proofs.Units.{at_unit_of, below_units}
use Rattle.one_clock.proofs.machine.next_steps_of_channels.Goals as goal
use Rattle.sim_base.proofs.Lists.{map_below-more}

pub bounds-channels-channel : goal.bounds-channels-channel
bounds-channels-channel c = below_units _ _ _ _ c.requires.channels (omega arith)

pub next_step_of_channel-requires-clause-past : goal.next_step_of_channel-requires-clause-past
next_step_of_channel-requires-clause-past c = c.index-channels-channel.is ∙ at_unit_of _ _ _ _ _ c.requires.channels (omega arith)

pub loop-channel-preserved : goal.loop-channel-preserved
loop-channel-preserved c =
    (c.in_ok-push.ensures {u = tt}).items
    ∙ ap₂ (λ xs x. xs ++ x ∷ []) c.loop-channel.invariant (c.in_ok-next_step_of_channel.ensures {u = tt})
    ∙ sym (map_below-more _ c.loop-channel.channel)

-- Each channel is where the lists have it.
use Rattle.std.proofs.Common.{[], ◌∷◌, ◌++◌, sym, ap₂, ◌∙◌, arith}
use Rattle.one_clock.proofs.Units.{at_unit_of, below_units}
use Rattle.one_clock.proofs.ending.channels_left.Goals as goal
use Rattle.sim_base.proofs.Lists.{map_below-more}

pub bounds-channels-channel : goal.bounds-channels-channel
bounds-channels-channel c = below_units _ _ _ _ c.requires.channels (omega arith)

pub channel_left-requires : goal.channel_left-requires
channel_left-requires c = record { past = c.index-channels-channel.is ∙ at_unit_of _ _ _ _ _ c.requires.channels (omega arith) }

pub loop-channel-preserved : goal.loop-channel-preserved
loop-channel-preserved c =
    (c.in_ok-push.ensures {u = tt}).items
    ∙ ap₂ (λ xs x. xs ++ x ∷ []) c.loop-channel.invariant (c.in_ok-channel_left.ensures {u = tt})
    ∙ sym (map_below-more _ c.loop-channel.channel)

-- One channel more has no past.
use Rattle.std.proofs.Common.{[], ◌∷◌, ◌++◌, sym, ap₂, ◌∙◌}
use Rattle.one_clock.proofs.Next.{channel_view_none}
use Rattle.one_clock.proofs.machine.start_channels.Goals as goal
use Rattle.sim_base.proofs.Lists.{map_below-more}

pub loop-channel-preserved : goal.loop-channel-preserved
loop-channel-preserved c =
    (c.in_ok-push.ensures {u = tt}).items
    ∙ ap₂ (λ xs x. xs ++ x ∷ []) c.loop-channel.invariant (c.new.ensures ∙ channel_view_none c.args.cycle.now.config.now c.args.cycle.now.traces.now c.args.cycle.now.number c.loop-channel.channel c.requires)
    ∙ sym (map_below-more _ c.loop-channel.channel)

use Rattle.std.proofs.Common.{[], sym, subst}
use Rattle.channel_step.specs.Channels.{StandsFor}
use Rattle.channel_step.specs.declared.channel.Channel.{Channel}
use Rattle.units.proofs.sim.first_channel.Goals as goal
use Rattle.units.proofs.sim.first_channel.Goals.{then-keeps_served, else-keeps_served}

pub returns : goal.returns
returns c =
    let s = c.args.config.now in
    elim c.if-keeps_served.branch [
      | then-keeps_served w ↦
          subst (λ (channel : Channel). StandsFor channel s c.args.number [] []) (sym w.channel-is) (w.keep_served.ensures.stands s c.args.number (c.in_ok-channel.ensures {u = tt}))
      | else-keeps_served w ↦ subst (λ (channel : Channel). StandsFor channel s c.args.number [] []) (sym w.channel-is) (c.in_ok-channel.ensures {u = tt})
    ]

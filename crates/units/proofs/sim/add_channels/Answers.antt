use Rattle.std.proofs.Common.{[], length, sym, ap, subst, ◌∙◌, arith}
use Rattle.std.proofs.lemmas.List.{length_push}
use Rattle.channel_step.specs.Channels.{StandsFor as ChannelStandsFor}
use Rattle.units.specs.Parts.{StandAt}
use Rattle.units.proofs.Standing.{first-channel}
use Rattle.units.proofs.sim.add_channels.Goals as goal

pub loop-number-preserved : goal.loop-number-preserved
loop-number-preserved c =
    let l = c.loop-number in
    let machine = c.args.machine.now in
    let items = c.in_ok-push.ensures.items in
    let count = ap length items ∙ length_push _ _ in (
      omega (arith, count, l.invariant.0),
      subst (StandAt machine 0) (sym items)
          (first-channel machine l.parts.items l.number c.in_ok-channel.channel c.in_ok-list.list l.invariant.1 l.invariant.0 (subst (λ x. ChannelStandsFor x machine.config l.number [] []) (sym c.in_ok-channel.ensures.ok) (c.in_ok-first.ensures {u = tt})) (c.in_ok-list.ensures {u = tt}).none),
    )

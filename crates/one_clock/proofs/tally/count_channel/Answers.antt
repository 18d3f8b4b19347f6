-- A cycle more of one channel: the sum fits.
use Rattle.std.proofs.Common.{◌+◌, ◌^◌, ◌<◌, length, ap, ap₂, ◌∙◌, arith}
use Rattle.std.specs.Prelude.{is_some}
use Rattle.sim_base.specs.Scheduling.{lowest_due}
use Rattle.statistics.specs.Channels.{channel_cycle_with}
use Rattle.plain_steps.specs.Plain.{queue_of}
use Rattle.one_clock.proofs.Joined.{channel_stats_fit}
use Rattle.one_clock.proofs.tally.count_channel.Goals as goal

pub joined-requires : goal.joined-requires
joined-requires c =
    let cycle = c.args.cycle.now in
    let longest : c.args.counts.now.queued_max < 2 ^ 64 = omega (arith, c.if-prove.false) in
    channel_stats_fit cycle.config.now cycle.traces.now cycle.number c.args.channel c.args.past.now c.args.step c.args.counts.now c.channel_cycle_stats-more.result
    c.requires.channel_in c.requires.past c.requires.step c.requires.counts
    (c.channel_cycle_stats-more.ensures.value
    ∙ ap₂ (λ h q. channel_cycle_with cycle.config.now h q (is_some (lowest_due cycle.config.now h cycle.number)) c.args.step.draining c.args.step.command)
    c.commands.ensures
    (ap length (c.deref.ensures.value ∙ c.in_ok-queue.ensures {u = tt} ∙ ap (λ p. queue_of p (cycle.number + 1)) c.pending.ensures)))
    cycle.early
    longest
    c.channel_cycle_stats-more.ensures.queue_fits

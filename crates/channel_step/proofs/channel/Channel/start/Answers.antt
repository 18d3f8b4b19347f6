use Rattle.std.proofs.Common.{ap₂, refl}
use Rattle.statistics.specs.declared.channels.ChannelStats.{ChannelStats}
use Rattle.channel_step.proofs.Starting.{start-stands}
use Rattle.channel_step.proofs.channel.Channel.start.Goals as goal

pub returns : goal.returns
returns c =
    let s = c.args.config.now in
    let first = c.in_ok-own.ensures {u = tt} in
    let then = c.in_ok-banks.ensures {u = tt} in
    start-stands _ s c.args.number first.copy refl (c.in_ok-latencies.ensures {u = tt}) refl first.queue then.banks (c.new.ensures.stands s refl refl)
    (ap₂ (λ (x : ChannelStats) d. record x { draining = d }) c.new-stats.ensures c.draining_of-stats.ensures)
    then.count
    then.candidates
    refl
    refl

-- One channel more is read.
use Rattle.std.proofs.Common.{◌≡◌, ◌+◌, ◌-◌, ◌<◌, ◌++◌, [], ◌∷◌, length, rules, sym, ap, arith}
use Rattle.run_tables.proofs.StatsTables.{channel_more}
use Rattle.run_tables.proofs.UnitRows.{channel_long, channel_least}
use Rattle.run_tables.proofs.stats.read_channels.Goals as goal

pub loop-channels-preserved : goal.loop-channels-preserved
loop-channels-preserved c =
    let xs = c.loop-channels.channels.items in
    let row = c.loop-channels.row in
    let pushed : c.push.new.self.items ≡ xs ++ c.in_ok-channel.channel ∷ [] = search rules in
    let place : c.len-in-loop-channels.result ≡ length xs = search rules in
    channel_more c.args.table.now c.args.start xs c.push.new.self.items c.in_ok-channel.channel row c.len-in-loop-channels.result (row + c.channel_size-row.result) c.loop-channels.invariant place
    (sym c.in_ok-channel.ensures.value) (ap (λ k. row + k) c.channel_size-row.ensures) pushed

pub loop-channels-smaller : goal.loop-channels-smaller
loop-channels-smaller c =
    let row = c.loop-channels.row in
    let long = channel_long c.args.table.now row c.len-in-loop-channels.result c.in_ok-channel.channel (sym c.in_ok-channel.ensures.value) in
    let least = channel_least c.in_ok-channel.channel in
    let size = c.channel_size-row.ensures in
    let less : length c.args.table.now - (row + c.channel_size-row.result) < length c.args.table.now - row = omega (arith, long, least, size) in
    less

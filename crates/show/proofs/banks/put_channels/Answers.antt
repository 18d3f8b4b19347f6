-- The banks of one more channel.
use Rattle.std.proofs.Common.{[], ap, arith, ◌≡◌}
use Rattle.show.specs.Banks.{all_banks_text, banks_text}
use Rattle.measures.specs.Banks.{channel_counts}
use Rattle.measures.proofs.Texts.{words_as}
use Rattle.measures.proofs.Parts.{part_below_more}
use Rattle.show.proofs.banks.put_channels.Goals as goal

pub loop-channel-preserved : goal.loop-channel-preserved
loop-channel-preserved c =
    part_below_more (λ channel. banks_text channel (channel_counts channel c.args.commands.now)) c.loop-channel.channel [] c.loop-channel.invariant c.put_channel.ensures

pub returns : goal.returns
returns c =
    let all : c.loop-channel.channel ≡ c.args.channels = omega arith in
    words_as (ap (all_banks_text c.args.commands.now) all) c.loop-channel.invariant

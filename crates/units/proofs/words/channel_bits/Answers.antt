-- The number of channels is a power of two.
use Rattle.sim_base.proofs.Powers.{power_from_log}
use Rattle.units.proofs.words.channel_bits.Goals as goal

pub returns-clause-channels : goal.returns-clause-channels
returns-clause-channels c =
    power_from_log c.args.config.now.channels c.ilog2.result c.args.config.now.machine_in_range.channels_in.1 c.ilog2.ensures.power_le c.ilog2.ensures.next_power_gt

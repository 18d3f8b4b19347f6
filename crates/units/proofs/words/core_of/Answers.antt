-- The number of channels is a power of two.
use Rattle.std.proofs.Common.{◌/◌, ap, sym}
use Rattle.units.proofs.words.core_of.Goals as goal

pub returns : goal.returns
returns c = ap (λ n. c.args.link / 3 / n) (sym c.channel_bits.ensures.channels)

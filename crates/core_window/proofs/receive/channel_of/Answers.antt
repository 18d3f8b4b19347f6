-- The number of channels is a power of two.
use Rattle.std.proofs.Common.{◌/◌, ◌∙◌, ap, arith}
use Rattle.std.specs.Prelude.{bit_and}
use Rattle.core_window.proofs.Masking.{masked}
use Rattle.core_window.proofs.receive.channel_of.Goals as goal

pub returns : goal.returns
returns c =
    let machine = c.args.config.now.machine_in_range in
    ap (bit_and (c.args.link / 3)) c.from.ensures ∙ masked c.args.config.now.channels (c.args.link / 3) (omega (arith, machine.channels_in.0)) (omega (arith, machine.channels_in.0)) machine.channels_in.1

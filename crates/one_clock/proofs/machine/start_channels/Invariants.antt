-- The channels that are there have no past.
use Rattle.std.proofs.Common.{◌≡◌, map}
use Rattle.sim_base.specs.History.{below}
use Rattle.one_clock.specs.Cycles.{channel_before}
use Rattle.one_clock.proofs.machine.start_channels.Given as goal

abbrev pub invariant-loop-channel : goal.invariant-loop-channel
invariant-loop-channel l = l.channels.items ≡ map (channel_before l.cycle) (below l.channel)

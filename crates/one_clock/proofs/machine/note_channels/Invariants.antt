-- The channels that are done are a cycle further than the others.
use Rattle.std.proofs.Common.{◌≡◌}
use Rattle.one_clock.proofs.Units.{halfway}
use Rattle.one_clock.specs.Cycles.{channel_before, channel_after}
use Rattle.one_clock.proofs.machine.note_channels.Given as goal

abbrev pub invariant-loop-channel : goal.invariant-loop-channel
invariant-loop-channel l = l.channels.items ≡ halfway (channel_after l.cycle) (channel_before l.cycle) l.cycle.config.now.channels l.channel

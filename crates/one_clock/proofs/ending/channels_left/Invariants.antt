-- The channels so far have theirs.
use Rattle.std.proofs.Common.{◌≡◌, map}
use Rattle.sim_base.specs.History.{below}
use Rattle.one_clock.specs.Cycles.{channel_left_before}
use Rattle.one_clock.proofs.ending.channels_left.Given as goal

abbrev pub invariant-loop-channel : goal.invariant-loop-channel
invariant-loop-channel l = l.left.items ≡ map (channel_left_before l.cycle) (below l.channel)

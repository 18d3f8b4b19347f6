-- All the channels that are done are so.
use Rattle.std.proofs.Common.{◌≡◌}
use Rattle.std.specs.List.{list_all}
use Rattle.sim_base.specs.History.{below}
use Rattle.one_clock.specs.Ends.{has_channel_served_before}
use Rattle.one_clock.proofs.machine.have_channels_served.Given as goal

abbrev pub invariant-loop-channel : goal.invariant-loop-channel
invariant-loop-channel l = l.all ≡ list_all (has_channel_served_before l.cycle) (below l.channel)

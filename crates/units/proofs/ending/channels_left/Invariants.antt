-- The channels so far have theirs.
use Rattle.std.proofs.Common.{◌≡◌, map}
use Rattle.sim_base.specs.History.{below}
use Rattle.sim_base.specs.Machine.{run}
use Rattle.statistics.specs.Runs.{final_of_channel}
use Rattle.units.proofs.ending.channels_left.Given as goal

abbrev pub invariant-loop-channel : goal.invariant-loop-channel
invariant-loop-channel l =
    l.left.items ≡ map (final_of_channel l.machine.config l.machine.traces.items (run l.machine.config l.machine.traces.items l.now)) (below l.channel)

-- The channels that are done have theirs.
use Rattle.std.proofs.Common.{◌≡◌, map}
use Rattle.sim_base.specs.History.{below}
use Rattle.one_clock.specs.Cycles.{channel_step_in}
use Rattle.one_clock.proofs.machine.next_steps_of_channels.Given as goal

abbrev pub invariant-loop-channel : goal.invariant-loop-channel
invariant-loop-channel l = l.steps.items ≡ map (channel_step_in l.cycle) (below l.channel)

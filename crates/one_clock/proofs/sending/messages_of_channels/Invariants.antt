-- What is there are the messages of the channels that are done.
use Rattle.std.proofs.Common.{◌≡◌}
use Rattle.std.specs.Prelude.{flat_map}
use Rattle.sim_base.specs.History.{below}
use Rattle.sim_base.specs.Sends.{channel_sends}
use Rattle.one_clock.specs.Cycles.{steps_before, step_in}
use Rattle.one_clock.proofs.sending.messages_of_channels.Given as goal

abbrev pub invariant-loop-channel : goal.invariant-loop-channel
invariant-loop-channel l = l.sent.items ≡ flat_map (channel_sends l.cycle.config.now (steps_before l.cycle) (step_in l.cycle)) (below l.channel)

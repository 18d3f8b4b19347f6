use Rattle.std.proofs.Common.{◌≡◌, take}
use Rattle.channel_step.specs.Past.{carried_requests}
use Rattle.channel_step.specs.Queued.{joined_with}
use Rattle.channel_step.proofs.arriving.admit.Given as goal

abbrev pub invariant-loop-message : goal.invariant-loop-message
invariant-loop-message l = l.queue ≡ joined_with l.initial.queue (carried_requests (take l.message-index l.new))

-- Each channel so far is told.
use Rattle.std.proofs.Common.{ℕ, ◌<◌}
use Rattle.measures.specs.Agreement.{IsChannelOfRun}
use Rattle.measures.proofs.request_check.agreement.check_channels.Given as goal

abbrev pub invariant-loop-channel : goal.invariant-loop-channel
invariant-loop-channel l = (channel : ℕ) → channel < l.channel → IsChannelOfRun l.stats l.requests channel

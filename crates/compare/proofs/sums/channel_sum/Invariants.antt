-- The sum is that of the channels so far.
use Rattle.std.proofs.Common.{◌≡◌, take}
use Rattle.std.specs.List.{sum_by}
use Rattle.compare.specs.Sums.{saturated, count_of_channel}
use Rattle.compare.proofs.sums.channel_sum.Given as goal

abbrev pub invariant-loop-channel : goal.invariant-loop-channel
invariant-loop-channel l = l.sum ≡ saturated (sum_by (count_of_channel l.count) (take l.channel-index l.channels))

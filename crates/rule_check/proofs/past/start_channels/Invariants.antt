-- Each channel so far has no rows.
use Rattle.std.proofs.Common.{◌≡◌, [], length}
use Rattle.std.specs.List.{All}
use Rattle.rule_check.specs.Kept.{IsKept}
use Rattle.rule_check.specs.declared.state.Channel.{Channel}
use Rattle.rule_check.proofs.past.start_channels.Given as goal

abbrev pub invariant-loop-channel : goal.invariant-loop-channel
invariant-loop-channel l = record {
  count : length l.channels.items ≡ l._channel;
  kept : All (λ (c : Channel). IsKept c l.config []) l.channels.items;
}

-- One channel more has no rows.
use Rattle.std.proofs.Common.{[], arith}
use Rattle.std.proofs.lemmas.List.Elements.{All-push}
use Rattle.rule_check.specs.Kept.{IsKept}
use Rattle.rule_check.specs.declared.state.Channel.{Channel}
use Rattle.rule_check.proofs.past.start_channels.Goals as goal

pub loop-channel-preserved : goal.loop-channel-preserved
loop-channel-preserved c =
    let pushed = c.in_ok-push.ensures {u = tt} in
    let before = c.loop-channel.invariant in record {
      count = omega (arith, pushed.len, before.count);
      kept =
          rw pushed.items
          (All-push (λ (x : Channel). IsKept x c.args.config.now []) c.loop-channel.channels.items _ before.kept (c.in_ok-start.ensures {u = tt}));
    }

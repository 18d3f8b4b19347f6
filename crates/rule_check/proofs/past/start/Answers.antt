-- No channel has rows.
use Rattle.std.proofs.Common.{refl}
use Rattle.rule_check.proofs.Passing.{past-first}
use Rattle.rule_check.proofs.past.start.Goals as goal

pub returns : goal.returns
returns c = past-first _ c.args.config.now refl c.in_ok-start_channels.ensures.count c.in_ok-start_channels.ensures.kept

use Rattle.std.proofs.Common.{subst}
use Rattle.channel_step.specs.Channels.{IsNextCommand}
use Rattle.channel_step.proofs.channel.Channel.waits_until.Goals as goal

pub returns-in-Known : goal.returns-in-Known
returns-in-Known c s history queue from waits known = c.is_none_before.ensures s history queue from waits (subst (IsNextCommand s history queue from) c.in-Known.is known)

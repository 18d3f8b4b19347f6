use Rattle.channel_step.specs.Past.{past_of}
use Rattle.channel_step.proofs.Skipping.{settled_stands}
use Rattle.channel_step.proofs.channel.Channel.decide_drain.Goals as goal

pub returns : goal.returns
returns c s channel steps mail h = settled_stands c.args.self.now _ (past_of s channel steps mail) (cc) h

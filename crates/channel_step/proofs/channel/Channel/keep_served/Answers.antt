use Rattle.channel_step.proofs.Starting.{keeping-stands}
use Rattle.channel_step.proofs.channel.Channel.keep_served.Goals as goal

pub returns-clause-stands : goal.returns-clause-stands
returns-clause-stands c s number h = keeping-stands c.args.self.now s number c.new.result c.new.ensures.items h

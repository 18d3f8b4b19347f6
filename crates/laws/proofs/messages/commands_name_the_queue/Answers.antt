-- The law, as it is proved.
use Rattle.laws.proofs.Named.{commands_name_the_queue}
use Rattle.laws.proofs.messages.commands_name_the_queue.Goals as goal

pub returns : goal.returns
returns c = commands_name_the_queue

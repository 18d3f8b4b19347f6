-- The law, as it is proved.
use Rattle.laws.proofs.Legal.{commands_are_legal, histories_are_legal, cycles_ascend}
use Rattle.laws.proofs.commands.commands_are_legal.Goals as goal

pub returns : goal.returns
returns c = record { in_each_cycle = commands_are_legal; one_by_one = histories_are_legal; ascending = cycles_ascend }

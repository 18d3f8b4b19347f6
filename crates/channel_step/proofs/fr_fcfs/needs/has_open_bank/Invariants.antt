use Rattle.std.proofs.Common.{◌≡◌, List, false}
use Rattle.std.specs.List.{list_any}
use Rattle.sim_base.specs.declared.command.IssuedCommand.{IssuedCommand}
use Rattle.sim_base.specs.History.{below}
use Rattle.sim_base.specs.Rules.{has_open_bank_in_group}
use Rattle.channel_step.specs.FrFcfs.Requests.{KnowsRows}
use Rattle.channel_step.proofs.fr_fcfs.needs.has_open_bank.Given as goal

-- no bank is open in the groups so far
abbrev pub invariant-loop-group : goal.invariant-loop-group
invariant-loop-group l =
    (history : List IssuedCommand) → KnowsRows l.bank_candidates history → list_any (has_open_bank_in_group history l.rank) (below l.group) ≡ false

-- The ranks so far have theirs.
use Rattle.std.proofs.Common.{◌≡◌, map}
use Rattle.sim_base.specs.History.{below}
use Rattle.sim_base.specs.Scheduling.{due}
use Rattle.laws.specs.Commands.{history_of}
use Rattle.units.proofs.ending.all_due.Given as goal

abbrev pub invariant-loop-rank : goal.invariant-loop-rank
invariant-loop-rank l = l.all.items ≡ map (λ rank. due l.machine.config rank (history_of l.machine.config l.machine.traces.items l.now l.number) l.now) (below l.rank)

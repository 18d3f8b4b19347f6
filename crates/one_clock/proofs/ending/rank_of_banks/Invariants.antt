-- The banks of the groups so far.
use Rattle.std.proofs.Common.{◌≡◌}
use Rattle.std.specs.Prelude.{flat_map}
use Rattle.sim_base.specs.History.{below}
use Rattle.sim_base.specs.Final.{banks_of_group}
use Rattle.one_clock.proofs.ending.rank_of_banks.Given as goal

abbrev pub invariant-loop-group : goal.invariant-loop-group
invariant-loop-group l = l.banks.items ≡ flat_map (banks_of_group l.rank) (below l.group)

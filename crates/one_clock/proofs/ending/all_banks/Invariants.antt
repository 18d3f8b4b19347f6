-- The banks of the ranks so far.
use Rattle.std.proofs.Common.{◌≡◌}
use Rattle.std.specs.Prelude.{flat_map}
use Rattle.sim_base.specs.History.{below}
use Rattle.sim_base.specs.Final.{banks_of_rank}
use Rattle.one_clock.proofs.ending.all_banks.Given as goal

abbrev pub invariant-loop-rank : goal.invariant-loop-rank
invariant-loop-rank l = l.banks.items ≡ flat_map (banks_of_rank l.s) (below l.rank)

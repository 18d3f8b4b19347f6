-- The open rows of the ranks so far are there.
use Rattle.std.proofs.Common.{◌≡◌}
use Rattle.std.specs.Prelude.{flat_map}
use Rattle.sim_base.specs.Final.{banks_of_rank}
use Rattle.sim_base.specs.History.{below}
use Rattle.units.specs.Runs.{rows_in_banks}
use Rattle.units.proofs.ending.open_rows.Given as goal

abbrev pub invariant-loop-rank : goal.invariant-loop-rank
invariant-loop-rank l =
    l.rows.items ≡ rows_in_banks l.machine l.now l.number (flat_map (banks_of_rank l.machine.config) (below l.rank))

-- The open rows of the groups so far are there.
use Rattle.std.proofs.Common.{ℕ}
use Rattle.std.specs.Prelude.{flat_map}
use Rattle.sim_base.specs.Final.{banks_of_group}
use Rattle.sim_base.specs.History.{below}
use Rattle.units.specs.Rows.{AddsRows}
use Rattle.units.specs.Runs.{HasChannelAt}
use Rattle.units.specs.declared.machine.Machine.{Machine}
use Rattle.units.proofs.ending.add_rows_of_rank.Given as goal

abbrev pub invariant-loop-group : goal.invariant-loop-group
invariant-loop-group l =
    (machine : Machine) (number now : ℕ) → HasChannelAt machine number now l.channel
    → AddsRows machine now number (flat_map (banks_of_group l.rank) (below l.group)) l.initial.rows.items l.rows.items

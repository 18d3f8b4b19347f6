-- The open rows of the banks so far are there.
use Rattle.std.proofs.Common.{ℕ, map}
use Rattle.sim_base.specs.declared.place.BankId.{BankId}
use Rattle.sim_base.specs.History.{below}
use Rattle.units.specs.Rows.{AddsRows}
use Rattle.units.specs.Runs.{HasChannelAt}
use Rattle.units.specs.declared.machine.Machine.{Machine}
use Rattle.units.proofs.ending.add_rows_of_group.Given as goal

abbrev pub invariant-loop-bank : goal.invariant-loop-bank
invariant-loop-bank l =
    (machine : Machine) (number now : ℕ) → HasChannelAt machine number now l.channel
    → AddsRows machine now number (map {B = BankId} (λ bank. record { rank = l.rank; group = l.group; bank = bank }) (below l.bank)) l.initial.rows.items l.rows.items

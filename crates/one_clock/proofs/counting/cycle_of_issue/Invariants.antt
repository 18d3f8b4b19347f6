-- The steps so far issued so much, and not the entry.
use Rattle.std.proofs.Common.{◌≡◌, ◌*◌, ◌≤◌, take}
use Rattle.sim_base.specs.History.{issued_before}
use Rattle.one_clock.proofs.counting.cycle_of_issue.Given as goal

abbrev pub invariant-loop-row : goal.invariant-loop-row
invariant-loop-row l = record { issued : l.issued ≡ issued_before (take l.row-index l.past_steps); cycle : l.cycle ≡ l.row-index; small : l.issued ≤ 65535 * l.row-index; before : l.issued ≤ l.entry }

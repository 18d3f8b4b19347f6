-- Those of the commands so far.
use Rattle.std.proofs.Common.{◌≡◌, take}
use Rattle.std.specs.Prelude.{filter_map}
use Rattle.one_clock.specs.Cycles.{request_of_row}
use Rattle.one_clock.proofs.machine.PlainMachine.all_served.Given as goal

abbrev pub invariant-loop-row : goal.invariant-loop-row
invariant-loop-row l = l.rows.items ≡ filter_map (request_of_row l.cycle) (take l.row-index l.row-items)

-- A row for each channel so far.
use Rattle.std.proofs.Common.{◌≡◌, map}
use Rattle.sim_base.specs.History.{below}
use Rattle.show.specs.Rows.{wait_row}
use Rattle.show.proofs.requests.wait_rows.Given as goal

abbrev pub invariant-loop-channel : goal.invariant-loop-channel
invariant-loop-channel l = l.rows.items ≡ map (wait_row l.requests l.khz) (below l.channel)

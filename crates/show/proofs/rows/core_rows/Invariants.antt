-- A row for each core so far.
use Rattle.std.proofs.Common.{◌≡◌, map, take}
use Rattle.show.specs.Rows.{core_row}
use Rattle.show.proofs.rows.core_rows.Given as goal

abbrev pub invariant-loop-core : goal.invariant-loop-core
invariant-loop-core l = l.rows.items ≡ map (core_row l.cycles l.khz) (take l.core-index l.cores)

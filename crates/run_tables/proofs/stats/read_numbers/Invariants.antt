-- The numbers so far are read.
use Rattle.std.proofs.Common.{◌≡◌, length, map, take, Ok}
use Rattle.statistics.specs.Counters.{counter_of}
use Rattle.run_tables.specs.Units.{numbers_at}
use Rattle.run_tables.proofs.stats.read_numbers.Given as goal

abbrev pub invariant-loop-place : goal.invariant-loop-place
invariant-loop-place l =
    (length l.numbers ≡ length l.counters) × (numbers_at l.table l.row l.unit.scope.now l.unit.id (map counter_of (take l.place l.counters)) ≡ Ok (take l.place l.numbers))

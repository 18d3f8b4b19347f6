-- The lists so far are empty.
use Rattle.std.proofs.Common.{◌≡◌, [], length}
use Rattle.shards.specs.Lists.{lists_of}
use Rattle.shards.proofs.sharded.no_row.Given as goal

abbrev pub invariant-loop : goal.invariant-loop
invariant-loop l = (length l.row.items ≡ l.counter) × (lists_of l.row.items ≡ [])

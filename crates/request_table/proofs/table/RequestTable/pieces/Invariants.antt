-- The pieces so far, and behind them what is left, are the table.
use Rattle.std.proofs.Common.{◌≡◌, ◌++◌}
use Rattle.std.specs.Prelude.{flat_map}
use Rattle.request_table.proofs.table.RequestTable.pieces.Given as goal

abbrev pub invariant-loop : goal.invariant-loop
invariant-loop l = flat_map (λ piece. piece) l.pieces.items ++ l.left ≡ l.self

-- A row for each core so far.
use Rattle.show.specs.Requests.{AreLatencyRows}
use Rattle.show.proofs.requests.latency_rows.Given as goal

abbrev pub invariant-loop-core : goal.invariant-loop-core
invariant-loop-core l = AreLatencyRows l.khz l.requests l.core l.rows.items

-- Each request so far is of the run.
use Rattle.std.proofs.Common.{ℕ, ◌<◌}
use Rattle.measures.specs.Agreement.{IsOfRunAt}
use Rattle.measures.proofs.request_check.agreement.check_rows.Given as goal

abbrev pub invariant-rows : goal.invariant-rows
invariant-rows l = (place : ℕ) → place < l.place → IsOfRunAt l.stats l.requests place

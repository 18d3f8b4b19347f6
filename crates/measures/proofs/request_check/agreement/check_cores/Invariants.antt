-- Each core so far is told.
use Rattle.std.proofs.Common.{ℕ, ◌<◌}
use Rattle.measures.specs.Agreement.{IsCoreOfRun}
use Rattle.measures.proofs.request_check.agreement.check_cores.Given as goal

abbrev pub invariant-loop-core : goal.invariant-loop-core
invariant-loop-core l = (core : ℕ) → core < l.core → IsCoreOfRun l.stats l.requests core

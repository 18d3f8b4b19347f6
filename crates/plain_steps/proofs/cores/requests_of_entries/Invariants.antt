-- What is there are the requests among the entries that are done.
use Rattle.std.proofs.Common.{◌≡◌, ◌+◌}
use Rattle.sim_base.specs.History.{requests_between}
use Rattle.plain_steps.proofs.cores.requests_of_entries.Given as goal

abbrev pub invariant-loop-k : goal.invariant-loop-k
invariant-loop-k l = l.sent.items ≡ requests_between l.s l.core l.trace l.issued.cycle l.issued.first (l.issued.first + l.k)

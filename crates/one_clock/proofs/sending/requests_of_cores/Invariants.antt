-- What is there are the requests of the cores that are done.
use Rattle.std.proofs.Common.{◌≡◌}
use Rattle.std.specs.Prelude.{flat_map}
use Rattle.sim_base.specs.History.{below}
use Rattle.one_clock.specs.Cycles.{sent_by}
use Rattle.one_clock.proofs.sending.requests_of_cores.Given as goal

abbrev pub invariant-loop-core : goal.invariant-loop-core
invariant-loop-core l = l.sent.items ≡ flat_map (sent_by l.cycle) (below l.core)

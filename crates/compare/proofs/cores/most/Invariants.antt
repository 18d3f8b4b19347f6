-- The core that changed most of those so far.
use Rattle.std.proofs.Common.{◌≡◌, fold}
use Rattle.sim_base.specs.History.{below}
use Rattle.compare.specs.Cores.{amount, core_change, further, no_core}
use Rattle.compare.proofs.cores.most.Given as goal

abbrev pub invariant-loop-core : goal.invariant-loop-core
invariant-loop-core l = l.best ≡ fold (λ best core. further best core (amount l.direction (core_change l.base l.run core))) no_core (below l.core)

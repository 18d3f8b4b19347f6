-- The table holds each distance where it is looked for.
use Rattle.std.proofs.Common.{subst}
use Rattle.sim_base.specs.Keys.{TimingInRange}
use Rattle.timing.proofs.Found.{found}
use Rattle.timing.proofs.gap_table.GapTable.between.Goals as goal

pub returns-clause-holds : goal.returns-clause-holds
returns-clause-holds c =
    rw (c.index_of_kind.ensures.value, c.index_of_kind-2.ensures.value, c.self.invariant.0, ← c.self.view_is) (found c.self.inside.timing c.args.earlier c.args.later _ _)

pub returns-clause-in_range : goal.returns-clause-in_range
returns-clause-in_range c = subst TimingInRange c.self.view_is c.self.invariant.1
